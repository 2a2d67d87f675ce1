-- Refusals 8, 9 and 10 of two records that were read: each test refuses as the definition says of the bytes.
-- Assumes nothing.
use Rattle.std.specs.Prelude.{Result, Ok, Err, if◌then◌else◌}
use mathlib.Core.Path.{◌≡◌, refl, ap, ◌∙◌}
use mathlib.Core.Logic.{◌≢◌}
use mathlib.Core.Bool.{Bool, true, false, ◌&&◌, not}
use mathlib.Core.List.{List}
use Prim.Native.Nat.{ℕ, ◌*◌, ◌≤◌, ◌<◌}
use lib.Dec.{leb, eqb}
use borrow.Author.Tests.{eq-eqb, ne_eqb, le-leb, lt-leb}
use Rattle.pairs.specs.Sets.{pair_limit}
use Rattle.rules.specs.declared.Reply.{Reply}
use Rattle.rules.specs.declared.Refusal.{Refusal}
use Rattle.rules.specs.declared.Refusal.TheVariants.{Record, Codes, Pairs, Room, Mode}
use Rattle.rules.specs.declared.Kind.TheVariants.{Specification}
use Rattle.rules.specs.Replies.{fine, refuses, unless, ◌or_else◌, refusal_reply}
use Rattle.rules.specs.Matching.{outside_agree, outside_refusal, product_fits, product_refusal}
use Rattle.rules.proofs.Replied.{fault_some}
use Rattle.tables.specs.declared.skids.SkidCounts.{SkidCounts}
use Rattle.tables.specs.Skids.{ok_if, ◌and_then◌, outcome_reply, OutsideMatched, PairsFew, RoomFound, SkidRead}

-- ---- a refusal refuses: after one nothing else is asked, and without one the next decides
pub refusal_refuses : (r : Refusal) → refuses (refusal_reply r) ≡ true
refusal_refuses (Record kind f) = ap not (fault_some f)
refusal_refuses (Codes kind) = refl
refusal_refuses Pairs = refl
refusal_refuses Room = refl
refusal_refuses Mode = refl

pub refused_first : (r : Refusal) (a b : Reply) → refusal_reply r ≡ a → refusal_reply r ≡ (a or_else b)
unfolding ◌or_else◌
refused_first r a b e = rw (← e, refusal_refuses r)

pub fine_first : (a b : Reply) → fine ≡ a → (a or_else b) ≡ b
unfolding ◌or_else◌
fine_first a b e = rw (← e)

pub and_then_told : {A B : Type 0} (a : Result A Refusal) (b : Result B Refusal) → outcome_reply (a and_then b) ≡ (outcome_reply a or_else outcome_reply b)
unfolding ◌and_then◌ ◌or_else◌
and_then_told (Ok v) b = refl
and_then_told (Err r) b = rw (refusal_refuses r)

-- ---- a test
module _ (test : Bool) (r : Refusal) where
  test_passes : test ≡ true → Ok tt ≡ ok_if test r
  unfolding ok_if
  test_passes e = rw e

  test_fails : test ≡ false → Err r ≡ ok_if test r
  unfolding ok_if
  test_fails e = rw e

test_replied : (test : Bool) (r : Refusal) → outcome_reply (ok_if test r) ≡ (if test then fine else refusal_reply r)
unfolding ok_if
test_replied true r = refl
test_replied false r = refl

-- ---- 8, as the code asks it
module _ (k : SkidCounts) where
  pub inputs_differ : k.context.i ≢ k.specification.i → OutsideMatched k (Err (Codes Specification))
  inputs_differ h = test_fails (eqb k.context.i k.specification.i && eqb k.context.o k.specification.o) (Codes Specification) (rw (ne_eqb k.context.i k.specification.i h))

  pub outputs_differ : k.context.i ≡ k.specification.i → k.context.o ≢ k.specification.o → OutsideMatched k (Err (Codes Specification))
  outputs_differ e h = test_fails _ (Codes Specification) (rw (eq-eqb k.context.i k.specification.i e, ne_eqb k.context.o k.specification.o h))

  pub outside_matches : k.context.i ≡ k.specification.i → k.context.o ≡ k.specification.o → OutsideMatched k (Ok tt)
  outside_matches e f = test_passes _ (Codes Specification) (rw (eq-eqb k.context.i k.specification.i e, eq-eqb k.context.o k.specification.o f))

  -- ---- 9
  pub pairs_over : 64 < k.context.states * k.specification.states → PairsFew k (Err Pairs)
  unfolding pair_limit
  pairs_over h = test_fails _ Pairs (lt-leb (k.context.states * k.specification.states) 64 h)

  pub pairs_within : k.context.states * k.specification.states ≤ 64 → PairsFew k (Ok tt)
  unfolding pair_limit
  pairs_within h = test_passes _ Pairs (le-leb (k.context.states * k.specification.states) 64 h)

  -- ---- as replies
  pub outside_told : (r : Result Unit Refusal) → OutsideMatched k r → outcome_reply r ≡ unless (eqb k.context.i k.specification.i && eqb k.context.o k.specification.o) 8 2
  unfolding unless
  outside_told r e = ap outcome_reply e ∙ test_replied (eqb k.context.i k.specification.i && eqb k.context.o k.specification.o) (Codes Specification)

  pub pairs_told : (r : Result Unit Refusal) → PairsFew k r → outcome_reply r ≡ unless (leb (k.context.states * k.specification.states) pair_limit) 9 0
  unfolding unless
  pairs_told r e = ap outcome_reply e ∙ test_replied (leb (k.context.states * k.specification.states) pair_limit) Pairs

  -- ---- of the records that were read
  module _ (context specification : List ℕ) (skid : SkidRead context specification k) where
    pub outside_replied : (r : Result Unit Refusal) → OutsideMatched k r → outcome_reply r ≡ outside_refusal context specification
    unfolding outside_refusal outside_agree
    outside_replied r e = rw skid.counts_are at (outside_told r e)

    pub pairs_replied : (r : Result Unit Refusal) → PairsFew k r → outcome_reply r ≡ product_refusal context specification
    unfolding product_refusal product_fits
    pairs_replied r e = rw skid.counts_are at (pairs_told r e)

-- ---- 10
module _ (lent needed : ℕ) where
  pub room_short : lent < needed → RoomFound lent needed (Err Room)
  room_short h = test_fails _ Room (lt-leb needed lent h)

  pub room_enough : needed ≤ lent → RoomFound lent needed (Ok tt)
  room_enough h = test_passes _ Room (le-leb needed lent h)

  pub room_told : (r : Result Unit Refusal) → RoomFound lent needed r → outcome_reply r ≡ unless (leb needed lent) 10 0
  unfolding unless
  room_told r e = ap outcome_reply e ∙ test_replied (leb needed lent) Room
