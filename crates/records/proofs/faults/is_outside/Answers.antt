use Rattle.records.proofs.HeadLaws.{counts_outside, rows_decide}
use Rattle.records.proofs.faults.is_outside.Goals as goal

pub returns-then-is_in_limits : goal.returns-then-is_in_limits
returns-then-is_in_limits c = search rows_decide

pub returns-else-is_in_limits : goal.returns-else-is_in_limits
returns-else-is_in_limits c = search counts_outside
