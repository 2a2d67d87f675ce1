use Rattle.records.proofs.LookupLaws.{Sought}
use Rattle.records.proofs.lookup.row_number.Given as goal

abbrev pub invariant-loop-k : goal.invariant-loop-k
invariant-loop-k l = Sought l.b l.a l.i l.v l.u l.o l.n l.k
