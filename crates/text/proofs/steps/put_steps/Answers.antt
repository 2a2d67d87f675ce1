use borrow.Author.Rules.{rules}
use Rattle.text.proofs.StepLaws.{codes_before, none_grown, turn_room, turn_grown, all_grown}
use Rattle.text.proofs.steps.put_steps.Goals as goal

pub loop-p-init : goal.loop-p-init
loop-p-init c = (search rules, search none_grown)

pub put_place-requires : goal.put_place-requires
put_place-requires c = record { codes = search codes_before; room = search turn_room }

pub loop-p-preserved : goal.loop-p-preserved
loop-p-preserved c = (search rules, search turn_grown)

pub returns : goal.returns
returns c = search all_grown
