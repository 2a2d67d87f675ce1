use native.Mathlib.Omega.{arith}
use Rattle.text.proofs.CutLaws.{no_length, told_end}
use Rattle.text.proofs.cutting.record_end.Goals as goal

pub returns-in_default : goal.returns-in_default
returns-in_default c = search no_length

pub returns : goal.returns
returns c = rw (c.min.ensures, c.from_le_bytes.ensures) (search (told_end, arith))
