use Rattle.records.proofs.TableLaws.{block_fits, state_fits, x_fits, step_fits, place_fits, next_fits, step_beyond}
use Rattle.records.proofs.tables.put_step.Goals as goal

pub overflow_mul-block : goal.overflow_mul-block
overflow_mul-block c = record { fits = search block_fits }

pub overflow_mul-place : goal.overflow_mul-place
overflow_mul-place c = record { fits = search state_fits }

pub overflow_mul-place-2 : goal.overflow_mul-place-2
overflow_mul-place-2 c = record { fits = search x_fits }

pub overflow_add-place : goal.overflow_add-place
overflow_add-place c = record { fits = search step_fits }

pub overflow_add-place-2 : goal.overflow_add-place-2
overflow_add-place-2 c = record { fits = search place_fits }

pub overflow_cast-table : goal.overflow_cast-table
overflow_cast-table c = record { fits = search next_fits }

pub returns-else-place-table : goal.returns-else-place-table
returns-else-place-table c = search step_beyond
