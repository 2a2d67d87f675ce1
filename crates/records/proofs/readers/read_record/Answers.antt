use Rattle.records.proofs.ReadLaws.{record_refused, record_read}
use Rattle.records.proofs.readers.read_record.Goals as goal

pub returns-in-Ok : goal.returns-in-Ok
returns-in-Ok c = record_read _ _ c.in-Ok.ensures _ c.record_counts.ensures

pub returns-in-Err : goal.returns-in-Err
returns-in-Err c = record_refused _ _ _ c.in-Err.ensures
