use borrow.Author.Rules.{rules}
use Rattle.writing.proofs.PutLaws.{absent_at, absent_out, row_room, row_at, row_out}
use Rattle.writing.proofs.Controller.put_place.Goals as goal

pub returns-then-self-p : goal.returns-then-self-p
returns-then-self-p c = (search absent_at, search absent_out)

pub put_row-requires : goal.put_row-requires
put_row-requires c = record { room = search row_room; inside = search rules }

pub returns : goal.returns
returns c = (search row_at, search row_out)
