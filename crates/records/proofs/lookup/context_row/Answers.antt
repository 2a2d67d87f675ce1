use Rattle.std.proofs.Common.{ap, refl}
use Rattle.records.proofs.LookupLaws.{row_end, row_there, row_none}
use Rattle.records.proofs.lookup.context_row.Goals as goal
use Rattle.records.proofs.lookup.context_row.Goals.{then-k-row_count, else-k-row_count}

pub slice_bounds-row-end : goal.slice_bounds-row-end
slice_bounds-row-end c = search row_end

pub returns : goal.returns
returns c = rw (c.from.ensures, c.from-2.ensures, c.from-3.ensures, c.from-4.ensures, c.from-5.ensures, c.from-6.ensures) (elim c.if-k-row_count.branch [
  | then-k-row_count w ↦ row_there _ w.layout_of-layout.ensures _ _ _ c.row_count.ensures w.if-k-row_count.true _ _ refl (ap (λ r. r.now) w.row-is)
  | else-k-row_count w ↦ row_none _ _ _ _ c.row_count.ensures w.if-k-row_count.false (ap (λ r. r.now) w.row-is)
])
