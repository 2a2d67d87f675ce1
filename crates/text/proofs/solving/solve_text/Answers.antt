use borrow.Author.Rules.{rules}
use Rattle.text.specs.Inputs.{solve_text_limit}
use Rattle.text.proofs.SolveTextLaws.{short_stays, program_put}
use Rattle.text.proofs.solving.solve_text.Goals as goal

pub returns-then-out-lt-SOLVE_TEXT : goal.returns-then-out-lt-SOLVE_TEXT
returns-then-out-lt-SOLVE_TEXT c = search short_stays

pub put_input-requires : goal.put_input-requires
unfolding solve_text_limit
put_input-requires c = search rules

pub returns : goal.returns
returns c = search program_put
