use borrow.Author.Rules.{rules}
use Rattle.solver.proofs.LentLaws.{lent_workable, lent_answered}
use Rattle.solver.proofs.solving.solve_matched.Goals as goal

pub solve_tables-requires : goal.solve_tables-requires
solve_tables-requires c = (search lent_workable, search rules)

pub returns : goal.returns
returns c = search lent_answered
