use Rattle.records.proofs.HeadLaws.{head_cut, row_cut}
use Rattle.records.proofs.faults.is_cut.Goals as goal

pub returns-then-b-layout : goal.returns-then-b-layout
returns-then-b-layout c = search head_cut

pub returns : goal.returns
returns c = search row_cut
