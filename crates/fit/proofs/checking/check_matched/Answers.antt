use Rattle.records.proofs.TableLaws.{front_count}
use Rattle.fit.proofs.checking.check_matched.Goals as goal

pub slice_bounds-check_read-end : goal.slice_bounds-check_read-end
slice_bounds-check_read-end c = search front_count
