-- Solving refuses with 1 to 10 exactly the inputs that are not solvable; all others are answered, each with the one of four solutions that is due.
-- Assumes nothing.
use Rattle.std.specs.Prelude.{Option, Some, None, Err, if◌then◌else◌}
use mathlib.Core.Path.{◌≡◌, refl, sym, ap, subst, ◌∙◌}
use mathlib.Core.Logic.{◌↔◌, ◌⊎◌, ⊎_elim, ⊎_map}
use mathlib.Core.Bool.{Bool, true, false, not, ◌&&◌, true≢false}
use mathlib.Core.List.{List, ◌++◌, flat_map}
use Prim.Native.Nat.{ℕ, ◌≤◌, ◌<◌}
use native.Mathlib.Nat.{sub-zero}
use native.Mathlib.Omega.{arith}
use lib.Dec.{T, leb, eqb, leb→le}
use lib.ListN.{length, drop, replicate}
use borrow.Author.Tests.{le-leb}
use mir.Facts.{and_yes}
use Rattle.pairs.specs.Lent.{filled, encoded_sets}
use Rattle.rules.specs.declared.Reply.{Reply}
use Rattle.rules.specs.Limits.{set_numbers, next_numbers}
use Rattle.rules.specs.Layouts.{Layout, context_layout, specification_layout}
use Rattle.rules.specs.Faults.{fault}
use Rattle.rules.specs.Replies.{refuses, unless, ◌or_else◌, fault_reply, record_refusal}
use Rattle.rules.specs.Tables.{Skid, skid_of}
use Rattle.rules.specs.Matching.{skid_refusal, outside_agree, product_fits, outside_refusal, product_refusal}
use Rattle.rules.proofs.ReadsFine.{no_fault}
use Rattle.rules.proofs.NotRefused.{or_else_fine, unless_fine, or_else_most, unless_most, record_most}
use Rattle.answers.specs.declared.Wanted.{Wanted}
use Rattle.answers.specs.declared.Wanted.TheVariants.{Plain, Unblocked}
use Rattle.answers.specs.Plain.{plain}
use Rattle.answers.specs.Rounds.{is_kept}
use Rattle.answers.specs.declared.Unsolved.TheVariants.{TooMany, Nothing}
use Rattle.answers.specs.Solve.{Answer, mode_of, answer_reply, Solution, no_table, plain_solution, unblocked_solution, solution_of, solution, SolveOutcome, stays, solved, solve_refusal, solve_for, solve_by, solve, Gives, Solved}
use Rattle.answers.proofs.Solutions.{deleted, fresh_solution, over_solution, within_solution, kept_solution_lem, none_solution, either_solution}
use Rattle.promises.specs.Solvable.{Solvable}
use Rattle.promises.specs.Buffers.{HoldZeros}

-- ---- refusals 1 to 10
module _ (context specification sets next : List ℕ) where
  solvable_fine : Solvable context specification sets next → refuses (solve_refusal context specification sets next) ≡ false
  unfolding solve_refusal skid_refusal record_refusal fault_reply outside_refusal product_refusal ◌or_else◌ unless
  solvable_fine s = rw (
    s.context_sound,
    s.specification_sound,
    s.outside_agrees,
    s.product_fits_lem,
    le-leb set_numbers (length sets) s.sets_room,
    le-leb next_numbers (length next) s.next_room,
  )

  pub solvable_solved : Solvable context specification sets next → (w : Wanted)
      → solve_for context specification sets next w ≡ solved sets next (solution w (skid_of context specification))
  unfolding solve_for
  solvable_solved s w = rw (solvable_fine s)

  fine_solvable : refuses (solve_refusal context specification sets next) ≡ false → Solvable context specification sets next
  unfolding solve_refusal skid_refusal record_refusal outside_refusal product_refusal
  fine_solvable e =
      let (skid, r₁) = or_else_fine (skid_refusal context specification) _ e in
      let (e₁, e₂) = or_else_fine (record_refusal 1 context_layout context) (record_refusal 2 specification_layout specification) skid in
      let (e₃, r₃) = or_else_fine (outside_refusal context specification) _ r₁ in
      let (e₄, e₅) = or_else_fine (product_refusal context specification) _ r₃ in
      let rooms = unless_fine (leb set_numbers (length sets) && leb next_numbers (length next)) 10 0 refl e₅ in
      let (first, second) = and_yes (leb set_numbers (length sets)) (leb next_numbers (length next)) (subst T (sym rooms) tt) in
      record {
        context_sound = no_fault 1 (fault context_layout context) e₁;
        specification_sound = no_fault 2 (fault specification_layout specification) e₂;
        outside_agrees = unless_fine (outside_agree context specification) 8 2 refl e₃;
        product_fits_lem = unless_fine (product_fits context specification) 9 0 refl e₄;
        sets_room = leb→le set_numbers (length sets) first;
        next_room = leb→le next_numbers (length next) second;
      }

  refusal_most : (solve_refusal context specification sets next).number ≤ 10
  unfolding solve_refusal skid_refusal outside_refusal product_refusal
  refusal_most =
      or_else_most 10 (skid_refusal context specification) _ (or_else_most 10 (record_refusal 1 context_layout context) (record_refusal 2 specification_layout specification) (read 1 context_layout context) (read 2 specification_layout specification))
      (or_else_most 10 (outside_refusal context specification) _ (unless_most 10 (outside_agree context specification) 8 2 (omega arith))
      (or_else_most 10 (product_refusal context specification) _ (unless_most 10 (product_fits context specification) 9 0 (omega arith))
      (unless_most 10 (leb set_numbers (length sets) && leb next_numbers (length next)) 10 0 (omega arith))))
    where
      read : (table : ℕ) (l : Layout) (b : List ℕ) → (record_refusal table l b).number ≤ 10
      read table l b = let h = record_most table l b in omega arith

  -- 0, and a number from 11 on, is the number of an answer
  answer_solvable : (w : Wanted) → let n : ℕ = (solve_for context specification sets next w).reply.number in (n ≡ 0) ⊎ (10 < n)
      → Solvable context specification sets next
  unfolding solve_for
  answer_solvable w = go (refuses refused) refl _
    where
      refused : Reply
      refused = solve_refusal context specification sets next

      go : (b : Bool) → refuses refused ≡ b → (done : SolveOutcome)
          → let outcome : SolveOutcome = if b then stays sets next refused else done in (outcome.reply.number ≡ 0) ⊎ (10 < outcome.reply.number)
          → Solvable context specification sets next
      go true e done h = absurd (⊎_elim (λ z. true≢false (sym e ∙ ap (λ n. not (eqb n 0)) z)) (λ l. let m = refusal_most in omega arith) h)
      go false e done h = fine_solvable e

-- the numbers of the answers: 0, 11 and 12
abbrev Answered : ℕ → Type 0
Answered n = (n ≡ 0) ⊎ (n ≡ (answer_reply (Err TooMany)).number) ⊎ (n ≡ (answer_reply (Err (Nothing 0))).number)

-- they are given to no other input
pub answered_solvable : (mode : ℕ) (context specification sets next : List ℕ) (reply : Reply) (sets' next' : List ℕ)
    → Solved mode context specification sets next reply sets' next'
    → (reply.number ≡ 0) ⊎ (reply.number ≡ (answer_reply (Err TooMany)).number) ⊎ (reply.number ≡ (answer_reply (Err (Nothing 0))).number)
    → ((w : Wanted) × (mode_of mode ≡ Some w)) × Solvable context specification sets next
unfolding solve solve_by
answered_solvable mode context specification sets next reply sets' next' done h = go (mode_of mode) refl (subst (λ r. Answered r.number) done.reply_is h)
  where
    go : (m : Option Wanted) → mode_of mode ≡ m → Answered (solve_by context specification sets next m).reply.number
        → ((w : Wanted) × (mode_of mode ≡ Some w)) × Solvable context specification sets next
    go None e h = absurd (⊎_elim (λ z. omega arith) (⊎_elim (λ z. omega arith) (λ z. omega arith)) h)
    go (Some w) e h = ((w, e), answer_solvable context specification sets next w (⊎_map (λ z. z) (⊎_elim (λ z. omega arith) (λ z. omega arith)) h))

-- ---- the four solutions
-- only one state too many gives 11
not_over : (k : Skid) (w : Wanted) → (answer_reply (solution_of w k (plain k)).answer).number ≡ (answer_reply (Err TooMany)).number → ⊥
unfolding solution_of plain_solution
not_over k Plain e = omega arith
not_over k Unblocked e = either_solution k (λ s. (answer_reply s.answer).number ≡ (answer_reply (Err TooMany)).number → ⊥) (λ e. omega arith) (λ e. omega arith) e

module _ (mode : ℕ) (context specification sets next : List ℕ) (reply : Reply) (sets' next' : List ℕ) (done : Solved mode context specification sets next reply sets' next') where
  abbrev k : Skid
  k = skid_of context specification

  -- what solving gives, where the solution is s
  abbrev Given : Solution → Type 0
  Given s = Gives (solved sets next s) reply sets' next'

  pub solved_gives : {w : Wanted} → mode_of mode ≡ Some w → Solvable context specification sets next → Gives (solved sets next (solution w (skid_of context specification))) reply sets' next'
  unfolding solve solve_by
  solved_gives {w} m s = subst (λ o. Gives o reply sets' next') (ap (solve_by context specification sets next) m ∙ solvable_solved context specification sets next s w) done

  pub too_many_given : {w : Wanted} → mode_of mode ≡ Some w → Solvable context specification sets next → (plain (skid_of context specification)).over ≡ true
      → Gives (solved sets next (no_table (Err TooMany))) reply sets' next'
  too_many_given {w} m s e = subst Given (over_solution k w e) (solved_gives m s)

  pub plain_given : mode_of mode ≡ Some Plain → Solvable context specification sets next → (plain (skid_of context specification)).over ≡ false
      → Gives (solved sets next (plain_solution (plain (skid_of context specification)))) reply sets' next'
  unfolding solution_of
  plain_given m s e = subst Given (within_solution k Plain e) (solved_gives m s)

  module _ (m : mode_of mode ≡ Some Unblocked) (s : Solvable context specification sets next) (few : (plain (skid_of context specification)).over ≡ false) where
    unblocked_solution_lem : Given (unblocked_solution k (plain k))
    unfolding solution_of
    unblocked_solution_lem = subst Given (within_solution k Unblocked few) (solved_gives m s)

    pub unblocked_given : is_kept (deleted (skid_of context specification)).kept 0 ≡ true → Gives (solved sets next (fresh_solution (skid_of context specification))) reply sets' next'
    unblocked_given e = subst Given (kept_solution_lem k e) unblocked_solution_lem

    -- "if the start is deleted, the answer is "none""
    pub none_given : is_kept (deleted (skid_of context specification)).kept 0 ≡ false
        → Gives (solved sets next (no_table (Err (Nothing (deleted (skid_of context specification)).rounds)))) reply sets' next'
    none_given e = subst Given (none_solution k e) unblocked_solution_lem

  -- 11 is given exactly where discovery met one state too many
  pub number_too_many : {w : Wanted} → mode_of mode ≡ Some w → Solvable context specification sets next
      → (reply.number ≡ (answer_reply (Err TooMany)).number) ↔ ((plain (skid_of context specification)).over ≡ true)
  unfolding solved
  number_too_many {w} m s = (λ e. go (plain k).over refl e, λ e. ap (λ r. r.number) (too_many_given m s e).reply_is)
    where
      go : (b : Bool) → (plain k).over ≡ b → reply.number ≡ (answer_reply (Err TooMany)).number → b ≡ true
      go true o e = refl
      go false o e = absurd (not_over k w (sym (ap (λ r. r.number) (subst Given (within_solution k w o) (solved_gives m s)).reply_is) ∙ e))

-- "On 11 and 12 both parts are zero"
pub zeros_given : (a : Answer) {sets next : List ℕ} {reply : Reply} {sets' next' : List ℕ} → Gives (solved sets next (no_table a)) reply sets' next' → HoldZeros sets next sets' next'
unfolding solved encoded_sets flat_map filled
zeros_given a {sets} {next} gives = record {
  sets_are = gives.sets_are ∙ ap (λ n. replicate n 0 ++ drop set_numbers sets) (sub-zero set_numbers);
  next_is = gives.next_is ∙ ap (λ n. replicate n 0 ++ drop next_numbers next) (sub-zero next_numbers);
}
