use mathlib.Core.Path.{◌∙◌}
use borrow.Author.Rules.{rules}
use Rattle.writing.proofs.SurveyLaws.{rows_counted}
use Rattle.writing.proofs.rows_among.Goals as goal

pub returns : goal.returns
returns c = search rules ∙ rows_counted c.args.places.now
