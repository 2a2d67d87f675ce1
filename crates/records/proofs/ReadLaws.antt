-- What `read_record` needs: what was found decides.
-- Assumes nothing.
use Rattle.std.specs.Prelude.{Ok, Err}
use mathlib.Core.Path.{◌≡◌}
use mathlib.Core.List.{List}
use Prim.Native.Nat.{ℕ}
use Rattle.rules.specs.declared.Counts.{Counts}
use Rattle.rules.specs.declared.Fault.{Fault}
use Rattle.rules.specs.declared.Refusal.TheVariants.{Record}
use Rattle.rules.specs.declared.Kind.{Kind}
use Rattle.rules.specs.Layouts.{layout_of}
use Rattle.rules.specs.Counts.{counts_of}
use Rattle.rules.specs.Faults.{fault}
use Rattle.rules.specs.Reading.{read_unless, read_record}

module _ (kind : Kind) (b : List ℕ) where
  pub record_refused : (x : Fault) → Err x ≡ fault (layout_of kind) b → Err (Record kind x) ≡ read_record kind b
  unfolding read_record read_unless
  record_refused x e = rw (← e)

  pub record_read : Ok tt ≡ fault (layout_of kind) b → (counts : Counts) → counts ≡ counts_of kind b → Ok counts ≡ read_record kind b
  unfolding read_record read_unless
  record_read e counts q = rw (← e, ← q)
