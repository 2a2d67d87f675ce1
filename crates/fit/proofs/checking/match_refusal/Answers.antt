use Rattle.std.proofs.lemmas.Result.{err_from_is_err_and}
use Rattle.fit.proofs.MatchLaws.{outside_refuses, letters_refuse, pairs_refuse, room_decides}
use Rattle.fit.proofs.checking.match_refusal.Goals as goal

pub returns-in_err-same_outside : goal.returns-in_err-same_outside
returns-in_err-same_outside c =
    let p = err_from_is_err_and c.from_residual.result c.from_residual.ensures.1 in
    rw (p.1, p.2) (outside_refuses _ _ _ _ c.in_err-same_outside.ensures)

pub returns-in_err-same_letters : goal.returns-in_err-same_letters
returns-in_err-same_letters c =
    let p = err_from_is_err_and c.from_residual-in_err-same_letters.result c.from_residual-in_err-same_letters.ensures.1 in
    rw (p.1, p.2) (letters_refuse _ _ _ c.in_ok-same_outside.ensures _ c.in_err-same_letters.ensures)

pub returns-in_err-few_pairs : goal.returns-in_err-few_pairs
returns-in_err-few_pairs c =
    let p = err_from_is_err_and c.from_residual-in_err-few_pairs.result c.from_residual-in_err-few_pairs.ensures.1 in
    rw (p.1, p.2) (pairs_refuse _ _ _ c.in_ok-same_outside.ensures c.in_ok-same_letters.ensures _ c.in_err-few_pairs.ensures)

pub returns : goal.returns
returns c = room_decides _ _ _ c.in_ok-same_outside.ensures c.in_ok-same_letters.ensures c.in_ok-few_pairs.ensures _ c.room.ensures
