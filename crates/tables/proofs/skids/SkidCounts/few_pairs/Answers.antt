use Rattle.tables.proofs.SkidMatchLaws.{pairs_over, pairs_within}
use Rattle.tables.proofs.skids.SkidCounts.few_pairs.Goals as goal

pub returns-then-self-gt-PAIR_LIMIT : goal.returns-then-self-gt-PAIR_LIMIT
returns-then-self-gt-PAIR_LIMIT c = search pairs_over

pub returns : goal.returns
returns c = search pairs_within
