-- What solving with reply 0 says of its sizes: the answer has at most 512 states, and the context was read without fault.
-- Assumes nothing.
use Rattle.std.specs.Prelude.{if◌then◌else◌, Ok, Option as Optional, Some, None, Err}
use mathlib.Core.Path.{◌≡◌, refl, sym, ap, subst, ◌∙◌}
use mathlib.Core.Bool.{Bool, true, false, not, true≢false}
use mathlib.Core.Option.{Option, none, some}
use mathlib.Core.List.{List, map}
use Prim.Native.Nat.{ℕ, ◌≤◌, ◌<◌}
use native.Mathlib.Omega.{arith}
use lib.Dec.{eqb}
use lib.ListN.{length}
use Rattle.rules.specs.declared.Reply.{Reply}
use Rattle.rules.specs.Limits.{state_limit}
use Rattle.rules.specs.Layouts.{context_layout, specification_layout}
use Rattle.rules.specs.Faults.{fault}
use Rattle.rules.specs.Replies.{refuses, record_refusal}
use Rattle.rules.specs.Tables.{Skid, skid_of, letters}
use Rattle.rules.specs.Matching.{skid_refusal}
use Rattle.rules.specs.Discover.{discover}
use Rattle.rules.proofs.Numbering.{Each, Listed}
use Rattle.rules.proofs.Discover.{discover_known}
use Rattle.rules.proofs.ReadsFine.{no_fault}
use Rattle.rules.proofs.NotRefused.{or_else_fine}
use Rattle.answers.specs.declared.Wanted.{Wanted}
use Rattle.answers.specs.declared.Wanted.TheVariants.{Plain, Unblocked}
use Rattle.answers.specs.declared.Unsolved.TheVariants.{TooMany}
use Rattle.answers.specs.Plain.{after, start_set, plain}
use Rattle.answers.specs.Unblocked.{step_on, afresh}
use Rattle.answers.specs.Solve.{mode_of, answer_reply, Solution, no_table, plain_solution, solution_of, solution, SolveOutcome, stays, solved, solve_refusal, solve_for, solve_by, solve, Solved}
use Rattle.answers.proofs.Solutions.{deleted, either_solution}

-- discovery lists at least the start and no state beyond its limit, over or not
listed : (limit start : ℕ) (out : ℕ → List (Option ℕ)) → 1 ≤ limit → Listed limit start (λ _. Unit {0}) (discover limit out start).states
listed limit start out h = (discover_known limit start (λ _. Unit {0}) out (λ x _ o _. any_step o) h tt).listed
  where
    any_step : (o : Option ℕ) → Each (λ _. Unit {0}) o
    any_step none = tt
    any_step (some x) = tt

module _ (k : Skid) where
  plain_some : 0 < length (plain k).states
  unfolding plain state_limit
  plain_some = (listed 512 (start_set k) (λ s. map (after k s) (letters k)) (omega arith)).occupied

  plain_few : length (plain k).states ≤ state_limit
  unfolding plain state_limit
  plain_few = (listed 512 (start_set k) (λ s. map (after k s) (letters k)) (omega arith)).bounded

  -- the states numbered afresh are plain ones
  afresh_few : (kept : List Bool) → length (afresh k (plain k).states (plain k).next kept).states ≤ state_limit
  unfolding afresh
  afresh_few kept =
      let most : length (discover (length (plain k).states) (λ s. map (step_on k (plain k).next kept s) (letters k)) 0).states ≤ length (plain k).states =
      (listed (length (plain k).states) 0 (λ s. map (step_on k (plain k).next kept s) (letters k)) plain_some).bounded in
      omega (arith, most, plain_few)

  abbrev Few : Solution → Type 0
  Few s = (answer_reply s.answer).states ≤ state_limit

  wanted_few : (w : Wanted) → Few (solution_of w k (plain k))
  unfolding solution_of plain_solution
  wanted_few Plain = plain_few
  wanted_few Unblocked = either_solution k Few (afresh_few (deleted k).kept) (omega arith)

  solution_few : (w : Wanted) → Few (solution w k)
  unfolding solution
  solution_few w = go (plain k).over
    where
      go : (b : Bool) → Few (if b then no_table (Err TooMany) else solution_of w k (plain k))
      go true = omega arith
      go false = wanted_few w

module _ (context specification sets next : List ℕ) where
  context_sound : refuses (solve_refusal context specification sets next) ≡ false → fault context_layout context ≡ Ok tt
  unfolding solve_refusal skid_refusal record_refusal
  context_sound e =
      let (skid, _) = or_else_fine (skid_refusal context specification) _ e in
      let (first, _) = or_else_fine (record_refusal 1 context_layout context) (record_refusal 2 specification_layout specification) skid in
      no_fault 1 (fault context_layout context) first

  -- few states, of a context without fault
  abbrev Small : Reply → Type 0
  Small reply = (reply.states ≤ state_limit) × (fault context_layout context ≡ Ok tt)

  for_small : (w : Wanted) → (solve_for context specification sets next w).reply.number ≡ 0 → Small (solve_for context specification sets next w).reply
  unfolding solve_for solved
  for_small w = go (refuses refused) refl
    where
      refused : Reply
      refused = solve_refusal context specification sets next

      done : SolveOutcome
      done = solved sets next (solution w (skid_of context specification))

      go : (b : Bool) → refuses refused ≡ b → (if b then stays sets next refused else done).reply.number ≡ 0 → Small (if b then stays sets next refused else done).reply
      go true e z = absurd (true≢false (sym e ∙ ap (λ n. not (eqb n 0)) z))
      go false e z = (solution_few (skid_of context specification) w, context_sound e)

pub solved_small : (mode : ℕ) (context specification sets next : List ℕ) (reply : Reply) (sets' next' : List ℕ)
    → Solved mode context specification sets next reply sets' next' → reply.number ≡ 0 → (reply.states ≤ state_limit) × (fault context_layout context ≡ Ok tt)
unfolding solve solve_by
solved_small mode context specification sets next reply sets' next' done z =
    subst (Small context specification sets next) (sym done.reply_is) (go (mode_of mode) (ap (λ r. r.number) (sym done.reply_is) ∙ z))
  where
    go : (m : Optional Wanted) → (solve_by context specification sets next m).reply.number ≡ 0 → Small context specification sets next (solve_by context specification sets next m).reply
    go None e = absurd (omega arith)
    go (Some w) e = for_small context specification sets next w e
