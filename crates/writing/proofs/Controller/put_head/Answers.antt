use Rattle.writing.proofs.PutLaws.{rows_fit, after_fits, after_small, head_put}
use Rattle.writing.proofs.Controller.put_head.Goals as goal

pub overflow_mul-self : goal.overflow_mul-self
overflow_mul-self c = record { fits = search rows_fit }

pub overflow_add-self : goal.overflow_add-self
overflow_add-self c = record { fits = search after_fits }

pub overflow_cast-self : goal.overflow_cast-self
overflow_cast-self c = record { fits = search after_small }

pub returns : goal.returns
returns c = search head_put
