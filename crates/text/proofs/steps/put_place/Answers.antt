use Rattle.text.proofs.StepLaws.{codes_fit, codes_some, state_fits, signal_fits, reply_fits, absent_grown, line_room, line_grown}
use Rattle.text.proofs.steps.put_place.Goals as goal

pub returns-then-to-eq-ABSENT : goal.returns-then-to-eq-ABSENT
returns-then-to-eq-ABSENT c = search absent_grown

pub overflow_mul-u : goal.overflow_mul-u
overflow_mul-u c = record { fits = search codes_fit }

pub nonzero_div-p : goal.nonzero_div-p
nonzero_div-p c = search codes_some

pub overflow_cast-p : goal.overflow_cast-p
overflow_cast-p c = record { fits = search state_fits }

pub overflow_cast-p-2 : goal.overflow_cast-p-2
overflow_cast-p-2 c = record { fits = search signal_fits }

pub overflow_cast-p-3 : goal.overflow_cast-p-3
overflow_cast-p-3 c = record { fits = search reply_fits }

pub put_step-requires : goal.put_step-requires
put_step-requires c = search line_room

pub returns : goal.returns
returns c = search line_grown
