use native.Mathlib.Omega.{arith}
use Rattle.text.proofs.SolveTextLaws.{refused_room, too_long_put, empty_put, input_put}
use Rattle.text.proofs.solving.put_input.Goals as goal

pub put_refused-requires : goal.put_refused-requires
put_refused-requires c = search refused_room

pub returns-then-input-gt-SOLVE_LIMIT : goal.returns-then-input-gt-SOLVE_LIMIT
returns-then-input-gt-SOLVE_LIMIT c = search too_long_put

pub put_refused-requires-then-input-eq0 : goal.put_refused-requires-then-input-eq0
put_refused-requires-then-input-eq0 c = search refused_room

pub returns-then-input-eq0 : goal.returns-then-input-eq0
returns-then-input-eq0 c = search empty_put

pub overflow_cast-input : goal.overflow_cast-input
overflow_cast-input c = omega (arith, c.type_inv.input 0)

pub returns : goal.returns
returns c = search input_put
