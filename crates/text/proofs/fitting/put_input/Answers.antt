use Rattle.text.proofs.ProgramLaws.{cut_within, cut_length}
use Rattle.text.proofs.FitTextLaws.{refused_room, too_long_put, input_put}
use Rattle.text.proofs.fitting.put_input.Goals as goal

pub put_refused-requires : goal.put_refused-requires
put_refused-requires c = search refused_room

pub returns-then-input-gt-FIT_LIMIT : goal.returns-then-input-gt-FIT_LIMIT
returns-then-input-gt-FIT_LIMIT c = search too_long_put

pub slice_bounds-put_rest-end : goal.slice_bounds-put_rest-end
slice_bounds-put_rest-end c = search cut_length

pub slice_bounds-put_rest-count : goal.slice_bounds-put_rest-count
slice_bounds-put_rest-count c = search cut_within

pub slice_bounds-put_rest-start : goal.slice_bounds-put_rest-start
slice_bounds-put_rest-start c = search cut_within

pub returns : goal.returns
returns c = search input_put
