use Rattle.records.proofs.ScanLaws.{Passed}
use Rattle.records.proofs.faults.rows_fault.Given as goal

abbrev pub invariant-loop-k : goal.invariant-loop-k
invariant-loop-k l = Passed l.kind l.b l.k l.before
