use native.Mathlib.Omega.{arith}
use lib.ListN.{length-append}
use Rattle.text.proofs.LineLaws.{step_parts, step_put}
use Rattle.text.proofs.lines.put_step.Goals as goal

pub put_number-requires : goal.put_number-requires
put_number-requires c = omega (arith, simp (step_parts, length-append) at c.requires)

pub put_field-requires : goal.put_field-requires
put_field-requires c = omega (arith, simp (step_parts, length-append) at c.requires)

pub put_field-requires-2 : goal.put_field-requires-2
put_field-requires-2 c = omega (arith, simp (step_parts, length-append) at c.requires)

pub put_field-requires-3 : goal.put_field-requires-3
put_field-requires-3 c = omega (arith, simp (step_parts, length-append) at c.requires)

pub put_end-requires : goal.put_end-requires
put_end-requires c = omega (arith, simp (step_parts, length-append) at c.requires)

pub returns : goal.returns
returns c = search step_put
