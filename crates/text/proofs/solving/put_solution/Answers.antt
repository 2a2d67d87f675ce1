use Rattle.text.proofs.SolveTextLaws.{solved_tabled, answer_fits, solution_put}
use Rattle.text.proofs.solving.put_solution.Goals as goal

pub put_answer-requires : goal.put_answer-requires
put_answer-requires c = record { tabled = search solved_tabled; room = search answer_fits }

pub returns : goal.returns
returns c = search solution_put
