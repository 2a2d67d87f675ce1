use borrow.Author.Rules.{rules}
use Rattle.writing.proofs.PutLaws.{none_long, leading_none, turn_room, turn_at, turn_out, end_out, end_size}
use Rattle.writing.proofs.Controller.put_rows.Goals as goal

pub loop-p-init : goal.loop-p-init
loop-p-init c = (search none_long, search leading_none)

pub put_place-at-requires : goal.put_place-at-requires
put_place-at-requires c = record { inside = search rules; room = search turn_room }

pub loop-p-preserved : goal.loop-p-preserved
loop-p-preserved c = (search turn_at, search turn_out)

pub shape_of-out : goal.shape_of-out
shape_of-out c = search end_size

pub returns : goal.returns
returns c = search end_out
