-- What each verdict of the check says, in the words of the theory: of the reply and of the lent numbers at the end.
-- Assumes nothing.
use Rattle.std.specs.Prelude.{◌≡◌, ◌↔◌, ◌⊎◌, List, ◌++◌, ℕ, drop, replicate, Ok, Err}
use Rattle.words.specs.System.{Good}
use Rattle.words.specs.Faulty.{LacksReply, LeavesSpecification, LacksContinuation}
use Rattle.rules.specs.declared.Reply.{Reply}
use Rattle.rules.specs.Limits.{set_numbers}
use Rattle.rules.specs.Counts.{controller_counts}
use Rattle.verdicts.specs.declared.Misfit.TheVariants.{Incomplete, Leaves, Blocks}
use Rattle.verdicts.specs.Verdict.{Verdict, verdict_reply}
use Rattle.verdicts.specs.Checkable.{skid_system, ControllerWords, HoldReachedPairs}

module _ (context specification controller sets : List ℕ) (reply : Reply) (sets' : List ℕ) where
  -- the reply is that of the verdict v
  abbrev pub Says : Verdict → Type 0
  Says v = reply ≡ verdict_reply (controller_counts controller).states v

  pub record IsVerdict : Type 0 where
    pub one_of_four : Says (Ok tt) ⊎ Says (Err Incomplete) ⊎ Says (Err Leaves) ⊎ Says (Err Blocks)
    pub fits : Says (Ok tt) ↔ Good (skid_system context specification) (ControllerWords context specification controller)
    pub incomplete : Says (Err Incomplete) ↔ LacksReply (skid_system context specification) (ControllerWords context specification controller)
    pub leaves : Says (Err Leaves) ↔ ((¬ LacksReply (skid_system context specification) (ControllerWords context specification controller))
        × LeavesSpecification (skid_system context specification) (ControllerWords context specification controller))
    pub blocks : Says (Err Blocks) ↔ ((¬ LacksReply (skid_system context specification) (ControllerWords context specification controller))
        × (¬ LeavesSpecification (skid_system context specification) (ControllerWords context specification controller))
        × LacksContinuation (skid_system context specification) (ControllerWords context specification controller))
    -- "on 0, 15 and 16 the reached pairs of each controller state, zeros after; on 14 all zero"
    pub pairs : (¬ Says (Err Incomplete)) → HoldReachedPairs context specification controller sets sets'
    pub zeros : Says (Err Incomplete) → sets' ≡ replicate set_numbers 0 ++ drop set_numbers sets
