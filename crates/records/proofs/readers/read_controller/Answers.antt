use Rattle.std.proofs.lemmas.Result.{err_from_is_err_and}
use Rattle.records.proofs.ReadControllerLaws.{controller_refused, controller_short, u_small, v_small, states_small, controller_filled}
use Rattle.records.proofs.readers.read_controller.Goals as goal

pub returns-in_err-counts : goal.returns-in_err-counts
returns-in_err-counts c = let p = err_from_is_err_and c.from_residual.result c.from_residual.ensures.1 in rw (p.1, p.2) (controller_refused _ _ _ c.in_err-counts.ensures)

pub returns-then-next-lt-NEXT_NUMBERS : goal.returns-then-next-lt-NEXT_NUMBERS
returns-then-next-lt-NEXT_NUMBERS c = controller_short _ _ _ c.in_ok-counts.ensures c.if-next-lt-NEXT_NUMBERS.true

pub fill_table-size-requires : goal.fill_table-size-requires
fill_table-size-requires c =
    let legal = c.in_ok-counts.ensures in
    (u_small _ c.args.next.now _ legal, v_small _ c.args.next.now _ legal, states_small _ c.args.next.now _ legal)

pub returns : goal.returns
returns c = controller_filled _ _ _ c.in_ok-counts.ensures _ c.fill_table-size.ensures.0 c.if-next-lt-NEXT_NUMBERS.false _ _ c.fill_table-size.ensures.1 c.zero_after.ensures
