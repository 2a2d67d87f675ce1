use Rattle.tables.proofs.SkidMatchLaws.{inputs_differ, outputs_differ, outside_matches}
use Rattle.tables.proofs.skids.SkidCounts.same_outside.Goals as goal
use Rattle.tables.proofs.skids.SkidCounts.same_outside.Goals.{then-self-via-then-self, then-self-via-else-self+then-self-2}

pub returns-then-self : goal.returns-then-self
returns-then-self c = elim c.then-self.branch [ then-self-via-then-self w ↦ search inputs_differ | then-self-via-else-self+then-self-2 w ↦ search outputs_differ ]

pub returns : goal.returns
returns c = search outside_matches
