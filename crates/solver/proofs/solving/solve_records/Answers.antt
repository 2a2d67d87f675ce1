use Rattle.std.proofs.lemmas.Result.{err_from_is_err_and}
use Rattle.solver.proofs.RefusedLaws.{skid_stays, match_stays}
use Rattle.solver.proofs.SolvedLaws.{matched, solve_done}
use Rattle.solver.proofs.solving.solve_records.Goals as goal

pub returns-in_err-k : goal.returns-in_err-k
returns-in_err-k c =
    let p = err_from_is_err_and c.from_residual.result c.from_residual.ensures.1 in
    rw (p.1, p.2) (search (skid_stays, c.in_err-k.ensures))

pub returns-in_err-match_counts : goal.returns-in_err-match_counts
returns-in_err-match_counts c =
    let r = c.from_residual-in_err-match_counts in
    let p = err_from_is_err_and r.result r.ensures.1 in
    rw (p.1, p.2) (search (match_stays, c.in_ok-k.ensures, c.in_err-match_counts.ensures))

pub solve_matched-requires : goal.solve_matched-requires
solve_matched-requires c = search (matched, c.in_ok-k.ensures, c.in_ok-match_counts.ensures)

pub returns : goal.returns
returns c = search (solve_done, c.in_ok-k.ensures, c.in_ok-match_counts.ensures)
