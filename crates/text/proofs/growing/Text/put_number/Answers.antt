use borrow.Author.Rules.{rules}
use native.Mathlib.Omega.{arith}
use lib.Seq.{take_all}
use Rattle.text.proofs.NumberLaws.{number_room, number_put}
use Rattle.text.proofs.growing.Text.put_number.Goals as goal

pub put-requires : goal.put-requires
put-requires c = number_room _ _ (omega (arith, c.ranges.n.fits)) (search (rules, take_all)) c.args.self.now c.requires

-- take_all: what is printed may be lent as a slice of all its bytes as well; so a wrong body that lends fewer is refused for the byte that it leaves out
pub returns : goal.returns
returns c = number_put _ _ (omega (arith, c.ranges.n.fits)) (search (rules, take_all)) c.args.self.now c.put.new.self c.put.ensures
