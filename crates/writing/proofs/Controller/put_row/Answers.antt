use Rattle.writing.proofs.PutLaws.{row_put}
use Rattle.writing.proofs.Controller.put_row.Goals as goal

pub returns : goal.returns
returns c = search row_put
