-- Refusals 8, 9 and 10, one test after the other: the first that fails gives the reply.
-- Assumes nothing.
use Rattle.std.specs.Prelude.{Result, Ok, Err}
use mathlib.Core.Path.{◌≡◌, refl, sym, ap, ◌∙◌}
use mathlib.Core.Bool.{Bool, true, false, ◌&&◌}
use mathlib.Core.List.{List}
use Prim.Native.Nat.{ℕ, ◌*◌, ◌<◌}
use lib.Dec.{leb}
use lib.ListN.{length}
use Rattle.pairs.specs.Lent.{set_size}
use Rattle.rules.specs.declared.Refusal.{Refusal}
use Rattle.rules.specs.declared.Refusal.TheVariants.{Pairs, Room}
use Rattle.rules.specs.Limits.{state_limit, set_numbers, next_numbers}
use Rattle.rules.specs.Counts.{context_counts, specification_counts}
use Rattle.rules.specs.Replies.{unless, ◌or_else◌, refusal_reply}
use Rattle.rules.specs.Matching.{skid_refusal, outside_agree, outside_refusal, product_fits, product_refusal}
use Rattle.answers.specs.Solve.{solve_refusal}
use Rattle.tables.specs.declared.skids.SkidCounts.{SkidCounts}
use Rattle.tables.specs.Skids.{ok_if, outcome_reply, OutsideMatched, PairsFew, RoomFound}
use Rattle.tables.proofs.SkidMatchLaws.{refused_first, fine_first, outside_told, pairs_over, pairs_told}
use Rattle.solver.specs.Matched.{match_refusal, Matching}

-- ---- 10 is one refusal of two tests
room_first : (b c : Bool) (r : Refusal) → Err r ≡ ok_if b Room → refusal_reply r ≡ unless (b && c) 10 0
unfolding ok_if unless
room_first true c r e = absurd cc
room_first false c r e = let same : r ≡ Room = cc in ap refusal_reply same

room_second : (b c : Bool) (u : Unit) (r : Result Unit Refusal) → Ok u ≡ ok_if b Room → r ≡ ok_if c Room → outcome_reply r ≡ unless (b && c) 10 0
unfolding ok_if unless
room_second true true u r p e = ap outcome_reply e
room_second true false u r p e = ap outcome_reply e
room_second false true u r p e = absurd cc
room_second false false u r p e = absurd cc

module _ (k : SkidCounts) (sets next : ℕ) where
  pub outside_refused : (r : Refusal) → OutsideMatched k (Err r) → Matching k sets next (Err r)
  unfolding match_refusal
  outside_refused r e = refused_first r _ _ (outside_told k (Err r) e)

  module _ (u : Unit) (same : OutsideMatched k (Ok u)) where
    pub pairs_refused : (r : Refusal) → PairsFew k (Err r) → Matching k sets next (Err r)
    unfolding match_refusal
    pairs_refused r e = refused_first r _ _ (pairs_told k (Err r) e) ∙ sym (fine_first _ _ (outside_told k (Ok u) same))

    pub product_over : 64 < k.context.states * k.specification.states → Matching k sets next (Err Pairs)
    product_over h = pairs_refused Pairs (pairs_over k h)

    module _ (v : Unit) (few : PairsFew k (Ok v)) where
      so_far : match_refusal k.context k.specification sets next ≡ unless (leb set_numbers sets && leb next_numbers next) 10 0
      unfolding match_refusal
      so_far = fine_first _ _ (outside_told k (Ok u) same) ∙ fine_first _ _ (pairs_told k (Ok v) few)

      pub sets_refused : (r : Refusal) → RoomFound sets 512 (Err r) → Matching k sets next (Err r)
      unfolding set_numbers state_limit set_size
      sets_refused r e = room_first (leb 512 sets) (leb next_numbers next) r e ∙ sym so_far

      pub next_decides : (w : Unit) → RoomFound sets 512 (Ok w) → (r : Result Unit Refusal) → RoomFound next 8192 r → Matching k sets next r
      unfolding set_numbers state_limit set_size next_numbers
      next_decides w there r e = room_second (leb 512 sets) (leb 8192 next) w r there e ∙ sym so_far

-- these are the refusals of solving after those of the records
pub solve_refusal_lem : (context specification sets next : List ℕ) → solve_refusal context specification sets next
    ≡ (skid_refusal context specification or_else match_refusal (context_counts context) (specification_counts specification) (length sets) (length next))
unfolding solve_refusal outside_refusal outside_agree product_refusal product_fits match_refusal
solve_refusal_lem context specification sets next = refl
