use Rattle.writing.proofs.WriteLaws.{steps_fit, size_fits, size_fits_wide, row_bytes_fit, bytes_fit, bad_fits, is_writable}
use Rattle.writing.proofs.WriteLaws.{limits_refused, table_refused, start_refused, room_refused, place_refused, record_room, record_written}
use Rattle.writing.proofs.written.Goals as goal

pub returns-then-not-is_in_limits : goal.returns-then-not-is_in_limits
returns-then-not-is_in_limits c = search limits_refused

pub overflow_mul-size : goal.overflow_mul-size
overflow_mul-size c = record { fits = search steps_fit }

pub overflow_mul-size-2 : goal.overflow_mul-size-2
overflow_mul-size-2 c = record { fits = search size_fits }

pub overflow_cast-size : goal.overflow_cast-size
overflow_cast-size c = record { fits = search size_fits_wide }

pub returns-then-next-size : goal.returns-then-next-size
returns-then-next-size c = search table_refused

pub returns-then-out-start : goal.returns-then-out-start
returns-then-out-start c = search start_refused

pub overflow_mul-rows : goal.overflow_mul-rows
overflow_mul-rows c = record { fits = search row_bytes_fit }

pub overflow_add-rows : goal.overflow_add-rows
overflow_add-rows c = record { fits = search bytes_fit }

pub returns-then-out-start-2 : goal.returns-then-out-start-2
returns-then-out-start-2 c = search room_refused

pub overflow_cast-result : goal.overflow_cast-result
overflow_cast-result c = record { fits = search bad_fits }

pub returns-in-Some : goal.returns-in-Some
returns-in-Some c = search place_refused

pub invariant_of-controller : goal.invariant_of-controller
invariant_of-controller c = record { writable = search is_writable }

pub put_record-requires : goal.put_record-requires
put_record-requires c = search record_room

pub returns : goal.returns
returns c = search record_written
