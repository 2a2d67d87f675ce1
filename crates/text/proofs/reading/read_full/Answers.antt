use Rattle.std.proofs.Common.{rules}
use Rattle.text.proofs.ReadingLaws.{read_more}
use Rattle.text.proofs.reading.read_full.Goals as goal

pub loop-end-preserved : goal.loop-end-preserved
loop-end-preserved g c =
    let read = c.in_ok-n.ensures in
    (search rules, read_more _ _ _ _ _ c.loop-end.invariant.0 _ _ _ read.bound.0 c.loop-end.invariant.1 read.bytes.0)
