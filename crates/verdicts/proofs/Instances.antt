-- The premises can be met, and the theorems then say something: of K1 with its answer, and of K6 with the row 0 0 0 0 alone. A table that blocks only
-- two joint steps from the start, computed.
-- Assumes nothing.
use mathlib.Core.Path.{◌≡◌, refl}
use mathlib.Core.List.{List, [], ◌∷◌, flat_map}
use Prim.Native.Nat.{ℕ}
use native.Mathlib.Omega.{arith}
use lib.ListN.{replicate}
use Rattle.words.specs.System.{Good}
use Rattle.words.specs.Faulty.{LacksContinuation}
use Rattle.rules.specs.Replies.{refusal}
use Rattle.rules.specs.Skids.{controller_record, k1, k5, k6}
use Rattle.verdicts.specs.Check.{Checked, check}
use Rattle.verdicts.specs.Checkable.{skid_system, ControllerWords}
use Rattle.verdicts.specs.Skids.{checks}
use Rattle.verdicts.proofs.Checked.{check_fits, check_blocks}

-- K1's answer: v follows u. And "Controller with row 0 0 0 0 alone"
follows : List ℕ
unfolding controller_record flat_map
follows = controller_record (2 ∷ 2 ∷ 1 ∷ 0 ∷ []) ((0 ∷ 0 ∷ 0 ∷ 0 ∷ 0 ∷ 0 ∷ []) ∷ (0 ∷ 0 ∷ 1 ∷ 1 ∷ 0 ∷ 0 ∷ []) ∷ [])

still : List ℕ
unfolding controller_record flat_map
still = controller_record (1 ∷ 2 ∷ 1 ∷ 0 ∷ []) ((0 ∷ 0 ∷ 0 ∷ 0 ∷ 0 ∷ 0 ∷ []) ∷ [])

-- on K5, always v = 1
later : List ℕ
unfolding controller_record flat_map
later = controller_record (1 ∷ 2 ∷ 1 ∷ 0 ∷ []) ((0 ∷ 0 ∷ 0 ∷ 1 ∷ 0 ∷ 0 ∷ []) ∷ [])

lent : List ℕ
lent = replicate 512 9

-- the outcome of the definition is one that `Checked` allows
defined : (context specification controller sets : List ℕ)
    → Checked context specification controller sets (check context specification controller sets).reply (check context specification controller sets).sets
defined context specification controller sets = record { reply_is = refl; sets_are = refl }

follows_good : Good (skid_system k1.context k1.specification) (ControllerWords k1.context k1.specification follows)
unfolding checks k1 follows lent
follows_good = (check_fits (defined k1.context k1.specification follows lent) (record {
  context_sound = refl;
  specification_sound = refl;
  controller_sound = refl;
  outside_agrees = refl;
  letters_agree_lem = refl;
  product_fits_lem = refl;
  room = omega arith;
})).0 refl

still_blocks : LacksContinuation (skid_system k6.context k6.specification) (ControllerWords k6.context k6.specification still)
unfolding checks k6 still lent
still_blocks = ((check_blocks (defined k6.context k6.specification still lent) (record {
  context_sound = refl;
  specification_sound = refl;
  controller_sound = refl;
  outside_agrees = refl;
  letters_agree_lem = refl;
  product_fits_lem = refl;
  room = omega arith;
})).0 refl).2

-- states 0 and 1 of K5 go on with every i; state 2, the third pair, has nothing on i = 1
later_blocks : check k5.context k5.specification later lent ≡ record { reply = refusal 16 0 0 0; sets = 7 ∷ replicate 511 0 }
unfolding checks k5 later lent
later_blocks = refl
