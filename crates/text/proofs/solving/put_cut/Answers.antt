use Rattle.text.proofs.ProgramLaws.{cut_within, cut_length}
use Rattle.text.proofs.SolveTextLaws.{cut_put}
use Rattle.text.proofs.solving.put_cut.Goals as goal

pub slice_bounds-put_records-end : goal.slice_bounds-put_records-end
slice_bounds-put_records-end c = search cut_length

pub slice_bounds-put_records-count : goal.slice_bounds-put_records-count
slice_bounds-put_records-count c = search cut_within

pub slice_bounds-put_records-start : goal.slice_bounds-put_records-start
slice_bounds-put_records-start c = search cut_within

pub returns : goal.returns
returns c = search cut_put
