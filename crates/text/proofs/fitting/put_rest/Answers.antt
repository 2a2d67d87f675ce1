use Rattle.text.proofs.ProgramLaws.{cut_within, cut_length}
use Rattle.text.proofs.FitTextLaws.{rest_put}
use Rattle.text.proofs.fitting.put_rest.Goals as goal

pub slice_bounds-put_verdict-end : goal.slice_bounds-put_verdict-end
slice_bounds-put_verdict-end c = search cut_length

pub slice_bounds-put_verdict-count : goal.slice_bounds-put_verdict-count
slice_bounds-put_verdict-count c = search cut_within

pub slice_bounds-put_verdict-start : goal.slice_bounds-put_verdict-start
slice_bounds-put_verdict-start c = search cut_within

pub returns : goal.returns
returns c = search rest_put
