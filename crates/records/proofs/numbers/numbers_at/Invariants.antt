use Rattle.records.proofs.NumberLaws.{Read}
use Rattle.records.proofs.numbers.numbers_at.Given as goal

abbrev pub invariant-loop-j : goal.invariant-loop-j
invariant-loop-j l = Read l.b l.at l.sizes l.read l.place l.j
