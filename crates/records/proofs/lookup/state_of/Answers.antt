use Rattle.records.proofs.KindLaws.{row_offset_fits}
use Rattle.records.proofs.LookupLaws.{state_read}
use Rattle.records.proofs.lookup.state_of.Goals as goal

pub overflow_mul-k : goal.overflow_mul-k
overflow_mul-k c = record { fits = search row_offset_fits }

pub returns : goal.returns
returns c = search state_read
