use Prim.Native.Nat.{ℕ}
use lib.ListN.{length-replicate}
use borrow.Author.Rules.{rules}
use Rattle.std.proofs.lemmas.Result.{err_from_is_err_and}
use Rattle.fit.proofs.RefusedLaws.{skid_stays, controller_stays, match_stays}
use Rattle.fit.proofs.CheckLaws.{matched, check_done}
use Rattle.fit.proofs.checking.checked.Goals as goal

pub returns-in_err-skid : goal.returns-in_err-skid
returns-in_err-skid c =
    let p = err_from_is_err_and c.from_residual.result c.from_residual.ensures.1 in
    rw (p.1, p.2) (skid_stays _ _ _ _ _ c.in_err-skid.ensures)

pub returns-in_err-t : goal.returns-in_err-t
returns-in_err-t c =
    let p = err_from_is_err_and c.from_residual-in_err-t.result c.from_residual-in_err-t.ensures.1 in
    rw (p.1, p.2) (controller_stays _ _ _ _ _ c.in_ok-skid.ensures _ (length-replicate {A = ℕ} 8192 0) _ _ c.in_err-t.ensures)

pub returns-in_err-match_refusal : goal.returns-in_err-match_refusal
returns-in_err-match_refusal c =
    let p = err_from_is_err_and c.from_residual-in_err-match_refusal.result c.from_residual-in_err-match_refusal.ensures.1 in
    rw (p.1, p.2) (match_stays _ _ _ _ _ c.in_ok-skid.ensures _ (length-replicate {A = ℕ} 8192 0) _ _ c.in_ok-t.ensures _ c.in_err-match_refusal.ensures)

pub check_matched-verdict-requires : goal.check_matched-verdict-requires
check_matched-verdict-requires c =
    matched _ _ _ _ _ c.in_ok-skid.ensures _ (length-replicate {A = ℕ} 8192 0) _ _ c.in_ok-t.ensures c.in_ok-match_refusal.ensures
    _ c.sizes_of-sizes.ensures (search rules)

pub returns : goal.returns
returns c =
    check_done _ _ _ _ _ c.in_ok-skid.ensures _ (length-replicate {A = ℕ} 8192 0) _ _ c.in_ok-t.ensures c.in_ok-match_refusal.ensures
    _ c.sizes_of-sizes.ensures _ _ c.check_matched-verdict.ensures _ c.verdict_reply.ensures
