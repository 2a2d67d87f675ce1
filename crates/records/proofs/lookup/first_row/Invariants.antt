use Rattle.rules.specs.Layouts.{context_layout}
use Rattle.rules.specs.Records.{rows_in}
use Rattle.records.proofs.LookupLaws.{Passed}
use Rattle.records.proofs.lookup.first_row.Given as goal

abbrev pub invariant-loop-k : goal.invariant-loop-k
invariant-loop-k l = Passed (rows_in context_layout l.b) l.a l.from l.n l.k
