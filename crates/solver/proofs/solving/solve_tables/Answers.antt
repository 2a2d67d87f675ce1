use borrow.Author.Rules.{rules}
use Rattle.solver.proofs.LentLaws.{index_lent}
use Rattle.solver.proofs.solving.solve_tables.Goals as goal

pub invariant_of-skid : goal.invariant_of-skid
invariant_of-skid c = record { workable = search rules; indexed = search index_lent }
