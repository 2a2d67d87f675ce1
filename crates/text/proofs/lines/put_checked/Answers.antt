use Rattle.text.specs.Lines.{fits_word, states_word}
use Rattle.text.proofs.LineLaws.{refused_room, checked_refused_put, fits_room, end_room, checked_put}
use Rattle.text.proofs.lines.put_checked.Goals as goal

pub put_refused-requires : goal.put_refused-requires
put_refused-requires c = search refused_room

pub returns-then-reply-ne0 : goal.returns-then-reply-ne0
returns-then-reply-ne0 c = search checked_refused_put

pub put_field-requires : goal.put_field-requires
unfolding fits_word states_word
put_field-requires c = search fits_room

pub put_end-requires : goal.put_end-requires
unfolding fits_word states_word
put_end-requires c = search end_room

pub returns : goal.returns
unfolding fits_word states_word
returns c = search checked_put
