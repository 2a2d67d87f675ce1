use Rattle.std.proofs.lemmas.Result.{err_from_is_err_and}
use Rattle.records.proofs.HeadLaws.{few_rows, head_decides, rows_follow}
use Rattle.records.proofs.faults.fault_of.Goals as goal

pub rows_fault-requires : goal.rows_fault-requires
rows_fault-requires c = few_rows _ _ c.in_ok-head_fault.ensures

pub returns : goal.returns
returns c = rows_follow _ _ c.in_ok-head_fault.ensures _ c.rows_fault.ensures

pub returns-in_err-head_fault : goal.returns-in_err-head_fault
returns-in_err-head_fault c = let p = err_from_is_err_and c.from_residual.result c.from_residual.ensures.1 in rw (p.1, p.2) (head_decides _ _ _ c.in_err-head_fault.ensures)
