use Rattle.records.proofs.RowLaws.{place_below, place_fits, below_stop, below_on, below_end}
use Rattle.records.proofs.faults.is_below.Goals as goal

pub offset_bounds-counts-k : goal.offset_bounds-counts-k
offset_bounds-counts-k c = record { fits = search place_fits }

pub bounds-counts-k : goal.bounds-counts-k
bounds-counts-k c = search place_below

pub returns-then-counts-k : goal.returns-then-counts-k
returns-then-counts-k c = search below_stop

pub loop-j-preserved : goal.loop-j-preserved
loop-j-preserved c = search below_on

pub returns : goal.returns
returns c = search below_end
