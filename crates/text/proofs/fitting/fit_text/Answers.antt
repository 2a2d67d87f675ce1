use borrow.Author.Rules.{rules}
use Rattle.text.specs.Inputs.{fit_text_limit}
use Rattle.text.proofs.FitTextLaws.{short_stays, program_put}
use Rattle.text.proofs.fitting.fit_text.Goals as goal

pub returns-then-out-lt-FIT_TEXT : goal.returns-then-out-lt-FIT_TEXT
returns-then-out-lt-FIT_TEXT c = search short_stays

pub put_input-requires : goal.put_input-requires
unfolding fit_text_limit
put_input-requires c = search rules

pub returns : goal.returns
returns c = search program_put
