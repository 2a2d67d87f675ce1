-- Refusals 8, 9 and 10, one test after the other: the first that fails gives the refusal.
-- Assumes nothing.
use Rattle.std.specs.Prelude.{Result, Ok, Err}
use mathlib.Core.Path.{◌≡◌, refl, ap, ap₂, ◌∙◌}
use mathlib.Core.Logic.{◌≢◌}
use mathlib.Core.Bool.{Bool, true, false, ◌&&◌}
use mathlib.Core.List.{List}
use Prim.Native.Nat.{ℕ, ◌*◌, ◌<◌}
use lib.Dec.{leb, eqb}
use lib.ListN.{length}
use borrow.Author.Tests.{eq-eqb, ne_eqb}
use Rattle.pairs.specs.Sets.{pair_limit}
use Rattle.pairs.specs.Lent.{set_size}
use Rattle.rules.specs.declared.Reply.{Reply}
use Rattle.rules.specs.declared.Counts.{Counts}
use Rattle.rules.specs.declared.Refusal.{Refusal}
use Rattle.rules.specs.declared.Refusal.TheVariants.{Codes, Pairs}
use Rattle.rules.specs.declared.Kind.TheVariants.{Controller}
use Rattle.rules.specs.Limits.{state_limit, set_numbers}
use Rattle.rules.specs.Layouts.{controller_layout}
use Rattle.rules.specs.Counts.{controller_counts}
use Rattle.rules.specs.Replies.{unless, ◌or_else◌, record_refusal}
use Rattle.rules.specs.Matching.{skid_refusal, outside_agree, outside_refusal, letters_agree, letters_refusal, product_fits, product_refusal}
use Rattle.verdicts.specs.Check.{check_refusal}
use Rattle.tables.specs.declared.skids.SkidCounts.{SkidCounts}
use Rattle.tables.specs.Skids.{ok_if, ◌and_then◌, outcome_reply, skid_counts, OutsideMatched, PairsFew, RoomFound}
use Rattle.tables.proofs.SkidMatchLaws.{and_then_told, outside_told, pairs_over, pairs_told, room_told}
use Rattle.fit.specs.Matched.{LettersMatched, match_refusal}

-- ---- 8 of the controller
module _ (c t : Counts) where
  pub signals_differ : c.u ≢ t.u → LettersMatched c t (Err (Codes Controller))
  unfolding ok_if
  signals_differ h = rw (ne_eqb c.u t.u h)

  pub replies_differ : c.u ≡ t.u → c.v ≢ t.v → LettersMatched c t (Err (Codes Controller))
  unfolding ok_if
  replies_differ e h = rw (eq-eqb c.u t.u e, ne_eqb c.v t.v h)

  pub letters_match : c.u ≡ t.u → c.v ≡ t.v → LettersMatched c t (Ok tt)
  unfolding ok_if
  letters_match e f = rw (eq-eqb c.u t.u e, eq-eqb c.v t.v f)

-- ---- one after the other
refused_by : {A B : Type 0} (r : Refusal) (a : Result A Refusal) (b : Result B Refusal) → Err r ≡ a → Err r ≡ (a and_then b)
unfolding ◌and_then◌
refused_by r a b e = rw (← e)

passed_on : {A B : Type 0} (u : A) (a : Result A Refusal) (b c : Result B Refusal) → Ok u ≡ a → c ≡ b → c ≡ (a and_then b)
unfolding ◌and_then◌
passed_on u a b c e f = rw (← e) f

module _ (k : SkidCounts) (t : Counts) (room : ℕ) where
  pub outside_refuses : (r : Refusal) → OutsideMatched k (Err r) → Err r ≡ match_refusal k t room
  unfolding match_refusal
  outside_refuses r e = refused_by r _ _ e

  module _ (outside : OutsideMatched k (Ok tt)) where
    pub letters_refuse : (r : Refusal) → LettersMatched k.context t (Err r) → Err r ≡ match_refusal k t room
    unfolding match_refusal
    letters_refuse r e = passed_on tt _ _ _ outside (refused_by r _ _ e)

    module _ (letters : LettersMatched k.context t (Ok tt)) where
      pub pairs_refuse : (r : Refusal) → PairsFew k (Err r) → Err r ≡ match_refusal k t room
      unfolding match_refusal
      pairs_refuse r e = passed_on tt _ _ _ outside (passed_on tt _ _ _ letters (refused_by r _ _ e))

      pub product_over : 64 < k.context.states * k.specification.states → Err Pairs ≡ match_refusal k t room
      product_over h = pairs_refuse Pairs (pairs_over k h)

      pub room_decides : PairsFew k (Ok tt) → (r : Result Unit Refusal) → RoomFound room 512 r → r ≡ match_refusal k t room
      unfolding match_refusal set_numbers state_limit set_size
      room_decides pairs r e = passed_on tt _ _ _ outside (passed_on tt _ _ _ letters (passed_on tt _ _ _ pairs e))

  -- ---- as a reply
  abbrev pub match_reply : Reply
  match_reply =
      unless (eqb k.context.i k.specification.i && eqb k.context.o k.specification.o) 8 2 or_else
      unless (eqb k.context.u t.u && eqb k.context.v t.v) 8 3 or_else
      unless (leb (k.context.states * k.specification.states) pair_limit) 9 0 or_else
      unless (leb set_numbers room) 10 0

  letters_told : (test : Bool) → outcome_reply (ok_if test (Codes Controller)) ≡ unless test 8 3
  unfolding ok_if unless
  letters_told true = refl
  letters_told false = refl

  pub match_told : (r : Result Unit Refusal) → r ≡ match_refusal k t room → outcome_reply r ≡ match_reply
  unfolding match_refusal
  match_told r e =
      ap outcome_reply e ∙ and_then_told _ _
      ∙ ap₂ ◌or_else◌ (outside_told k _ refl) (and_then_told _ _
      ∙ ap₂ ◌or_else◌ (letters_told _) (and_then_told _ _
      ∙ ap₂ ◌or_else◌ (pairs_told k _ refl) (room_told room set_numbers _ refl)))

-- these are the refusals of the check after those of the records
pub check_refusal_lem : (context specification controller sets : List ℕ) → check_refusal context specification controller sets ≡ (
    skid_refusal context specification
    or_else record_refusal 3 controller_layout controller
    or_else match_reply (skid_counts context specification) (controller_counts controller) (length sets)
    )
unfolding check_refusal outside_refusal outside_agree letters_refusal letters_agree product_refusal product_fits
check_refusal_lem context specification controller sets = refl
