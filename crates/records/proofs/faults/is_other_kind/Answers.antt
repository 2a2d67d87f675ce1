use Rattle.records.proofs.HeadLaws.{kind_told}
use Rattle.records.proofs.faults.is_other_kind.Goals as goal

pub returns : goal.returns
returns c = search kind_told
