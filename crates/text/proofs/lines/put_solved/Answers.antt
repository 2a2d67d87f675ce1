use native.Mathlib.Omega.{arith}
use lib.ListN.{length-append}
use Rattle.text.specs.Lines.{states_word, rounds_word}
use Rattle.text.proofs.LineLaws.{solved_parts, solved_put}
use Rattle.text.proofs.lines.put_solved.Goals as goal

pub put_field-requires : goal.put_field-requires
unfolding states_word rounds_word
put_field-requires c = omega (arith, simp (solved_parts, length-append) at c.requires)

pub put_field-requires-2 : goal.put_field-requires-2
unfolding states_word rounds_word
put_field-requires-2 c = omega (arith, simp (solved_parts, length-append) at c.requires)

pub put_end-requires : goal.put_end-requires
unfolding states_word rounds_word
put_end-requires c = omega (arith, simp (solved_parts, length-append) at c.requires)

pub returns : goal.returns
unfolding states_word rounds_word
returns c = search solved_put
