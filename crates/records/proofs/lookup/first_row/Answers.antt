use Rattle.records.proofs.LookupLaws.{passed_none, first_here, passed_more, first_end}
use Rattle.records.proofs.lookup.first_row.Goals as goal

pub loop-k-init : goal.loop-k-init
loop-k-init c = search passed_none

pub returns-then-a-state_of : goal.returns-then-a-state_of
returns-then-a-state_of c = first_here _ _ _ _ _ c.loop-k.invariant _ c.state_of.ensures c.loop-k-test.true c.if-a-state_of.true

pub loop-k-preserved : goal.loop-k-preserved
loop-k-preserved c = passed_more _ _ _ _ _ c.loop-k.invariant _ c.state_of.ensures c.loop-k-test.true c.if-a-state_of.false

pub returns : goal.returns
returns c = search first_end
