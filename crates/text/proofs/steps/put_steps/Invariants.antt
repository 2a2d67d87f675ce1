use Prim.Native.Nat.{◌≤◌}
use lib.ListN.{take}
use Rattle.text.specs.Inside.{step_lines}
use Rattle.text.specs.Growing.{Grown}
use Rattle.text.proofs.steps.put_steps.Given as goal

abbrev pub invariant-loop-p : goal.invariant-loop-p
invariant-loop-p l = (l.p ≤ l.size) × Grown (step_lines l.u l.v 0 (take l.p l.next)) l.initial.text l.text
