use Rattle.std.proofs.lemmas.Result.{err_from_is_err_and}
use Rattle.solver.proofs.MatchLaws.{outside_refused, pairs_refused, sets_refused, next_decides}
use Rattle.solver.proofs.solving.match_counts.Goals as goal

pub returns-in_err-same_outside : goal.returns-in_err-same_outside
returns-in_err-same_outside c =
    let p = err_from_is_err_and c.from_residual.result c.from_residual.ensures.1 in
    rw (p.1, p.2) (search (outside_refused, c.in_err-same_outside.ensures))

pub returns-in_err-few_pairs : goal.returns-in_err-few_pairs
returns-in_err-few_pairs c =
    let r = c.from_residual-in_err-few_pairs in
    let p = err_from_is_err_and r.result r.ensures.1 in
    rw (p.1, p.2) (search (pairs_refused, c.in_ok-same_outside.ensures, c.in_err-few_pairs.ensures))

pub returns-in_err-room : goal.returns-in_err-room
returns-in_err-room c =
    let r = c.from_residual-in_err-room in
    let p = err_from_is_err_and r.result r.ensures.1 in
    rw (p.1, p.2) (search (sets_refused, c.in_ok-same_outside.ensures, c.in_ok-few_pairs.ensures, c.in_err-room.ensures))

pub returns : goal.returns
returns c = search (next_decides, c.in_ok-same_outside.ensures, c.in_ok-few_pairs.ensures, c.in_ok-room.ensures)
