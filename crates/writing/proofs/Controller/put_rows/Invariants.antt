use mathlib.Core.Path.{◌≡◌}
use lib.ListN.{length, take}
use Rattle.pairs.specs.Lent.{leading}
use Rattle.writing.specs.Inside.{rows_bytes}
use Rattle.writing.proofs.Controller.put_rows.Given as goal

abbrev pub invariant-loop-p : goal.invariant-loop-p
invariant-loop-p l =
    (l.at ≡ length (rows_bytes l.self.u l.self.v 0 (take l.p l.self.places.now)))
    × (l.out ≡ leading (rows_bytes l.self.u l.self.v 0 (take l.p l.self.places.now)) l.initial.out)
