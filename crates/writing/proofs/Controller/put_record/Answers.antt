use Rattle.writing.proofs.PutLaws.{head_room, head_left, rows_room, record_out}
use Rattle.writing.proofs.Controller.put_record.Goals as goal

pub put_head-requires : goal.put_head-requires
put_head-requires c = search head_room

pub slice_bounds-put_rows-count : goal.slice_bounds-put_rows-count
slice_bounds-put_rows-count c = search head_left

pub slice_bounds-put_rows-start : goal.slice_bounds-put_rows-start
slice_bounds-put_rows-start c = search head_left

pub put_rows-requires : goal.put_rows-requires
put_rows-requires c = search rows_room

pub returns : goal.returns
returns c = search record_out
