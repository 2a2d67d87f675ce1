-- The limits of the programs' input are the longest records that document 01 allows.
-- Assumes nothing.
use mathlib.Core.Path.{◌≡◌, refl}
use Prim.Native.Nat.{ℕ, ◌+◌, ◌*◌}
use Rattle.pairs.specs.Scans.{total}
use Rattle.rules.specs.Layouts.{Layout, context_layout, specification_layout, controller_layout}
use Rattle.rules.specs.Records.{head_size, row_size}
use Rattle.text.specs.Inputs.{solve_limit, fit_limit}

-- the bytes of a record with as many rows as its kind allows
abbrev pub longest : Layout → ℕ
longest l = head_size l + l.row_limit * row_size l

pub solve_limit_lem : solve_limit ≡ 1 + longest context_layout + longest specification_layout
unfolding solve_limit context_layout specification_layout total
solve_limit_lem = refl

pub fit_limit_lem : fit_limit ≡ longest context_layout + longest specification_layout + longest controller_layout
unfolding fit_limit context_layout specification_layout controller_layout total
fit_limit_lem = refl
