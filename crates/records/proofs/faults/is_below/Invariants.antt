use mathlib.Core.Path.{◌≡◌}
use lib.ListN.{length, take, drop}
use Rattle.rules.specs.Faults.{fields_below}
use Rattle.records.proofs.faults.is_below.Given as goal

abbrev pub invariant-loop-j : goal.invariant-loop-j
invariant-loop-j l = fields_below l.counts (drop l.j (take (length l.places) l.row)) (drop l.j l.places) ≡ fields_below l.counts (take (length l.places) l.row) l.places
