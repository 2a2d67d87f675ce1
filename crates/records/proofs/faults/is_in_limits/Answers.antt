use Rattle.records.proofs.LimitLaws.{limits_told}
use Rattle.records.proofs.faults.is_in_limits.Goals as goal

pub returns : goal.returns
returns c = search limits_told
