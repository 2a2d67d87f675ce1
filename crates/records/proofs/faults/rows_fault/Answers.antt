use native.Mathlib.Omega.{arith}
use Rattle.std.proofs.lemmas.Result.{err_from_is_err_and}
use Rattle.records.proofs.ScanLaws.{none_passed, one_passed, fault_found, all_passed}
use Rattle.records.proofs.faults.rows_fault.Goals as goal

pub loop-k-init : goal.loop-k-init
loop-k-init c = search none_passed

pub loop-k-preserved : goal.loop-k-preserved
loop-k-preserved c = one_passed _ _ _ _ c.loop-k.invariant _ c.row_count-n.ensures (omega (arith, c.loop-k-test.true)) _ _ c.counts_of-counts.ensures c.row_of-row.ensures c.in_ok-row_fault.ensures

pub returns-in_err-row_fault : goal.returns-in_err-row_fault
returns-in_err-row_fault c =
    let p = err_from_is_err_and c.from_residual.result c.from_residual.ensures.1 in rw (p.1, p.2) (fault_found _ _ _ _ c.loop-k.invariant _ c.row_count-n.ensures (omega (arith, c.loop-k-test.true)) _ _ c.counts_of-counts.ensures c.row_of-row.ensures _ c.in_err-row_fault.ensures)

pub returns : goal.returns
returns c = search (all_passed, arith)
