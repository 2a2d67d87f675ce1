use Rattle.text.proofs.AnswerLaws.{refused_room, refused_grown, codes_are, places_are, steps_fit, size_fits, solved_room, steps_room, solved_grown}
use Rattle.text.proofs.steps.put_answer.Goals as goal

pub put_refused-requires : goal.put_refused-requires
put_refused-requires c = search refused_room

pub returns-then-reply-ne0 : goal.returns-then-reply-ne0
returns-then-reply-ne0 c = search refused_grown

pub put_solved-requires : goal.put_solved-requires
put_solved-requires c = search solved_room

pub overflow_mul-size : goal.overflow_mul-size
overflow_mul-size c = record { fits = search steps_fit }

pub overflow_mul-size-2 : goal.overflow_mul-size-2
overflow_mul-size-2 c = record { fits = search size_fits }

pub put_steps-requires : goal.put_steps-requires
put_steps-requires c = record { codes = (search codes_are, search places_are); room = search steps_room }

pub returns : goal.returns
returns c = search solved_grown
