use Rattle.records.proofs.RowLaws.{below_told}
use Rattle.records.proofs.faults.has_codes_below.Goals as goal

pub returns : goal.returns
returns c = search below_told
