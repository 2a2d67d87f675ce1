use Rattle.records.proofs.KindLaws.{counts_held}
use Rattle.records.proofs.layouts.counts_of.Goals as goal

pub returns : goal.returns
returns c = search counts_held
