use Rattle.records.proofs.HeadLaws.{too_short, length_told}
use Rattle.records.proofs.faults.is_wrong_length.Goals as goal

pub returns-then-b-lt4 : goal.returns-then-b-lt4
returns-then-b-lt4 c = search too_short

pub returns : goal.returns
returns c = search length_told
