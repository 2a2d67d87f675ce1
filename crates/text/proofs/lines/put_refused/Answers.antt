use native.Mathlib.Omega.{arith}
use lib.ListN.{length-append}
use Rattle.text.specs.Lines.{refused_word, record_word, row_word, rounds_word}
use Rattle.text.proofs.LineLaws.{refused_parts, refused_put}
use Rattle.text.proofs.lines.put_refused.Goals as goal

pub put_field-requires : goal.put_field-requires
unfolding refused_word record_word row_word rounds_word
put_field-requires c = omega (arith, simp (refused_parts, length-append) at c.requires)

pub put_field-requires-2 : goal.put_field-requires-2
unfolding refused_word record_word row_word rounds_word
put_field-requires-2 c = omega (arith, simp (refused_parts, length-append) at c.requires)

pub put_field-requires-3 : goal.put_field-requires-3
unfolding refused_word record_word row_word rounds_word
put_field-requires-3 c = omega (arith, simp (refused_parts, length-append) at c.requires)

pub put_field-requires-4 : goal.put_field-requires-4
unfolding refused_word record_word row_word rounds_word
put_field-requires-4 c = omega (arith, simp (refused_parts, length-append) at c.requires)

pub put_end-requires : goal.put_end-requires
unfolding refused_word record_word row_word rounds_word
put_end-requires c = omega (arith, simp (refused_parts, length-append) at c.requires)

pub returns : goal.returns
unfolding refused_word record_word row_word rounds_word
returns c = search refused_put
