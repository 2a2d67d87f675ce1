use Rattle.text.proofs.GrowingLaws.{grown_then}
use Rattle.text.proofs.growing.Text.put_field.Goals as goal

pub returns : goal.returns
returns c = search grown_then
