-- The rounds of deletion that the unblocked answer counts: at most as many as there are plain states, each of them deletes something, and a further one would
-- delete nothing. And so the rounds of every reply of solving.
-- Assumes nothing.
use Rattle.std.specs.Prelude.{Ok, Err, if◌then◌else◌, Option, Some, None}
use mathlib.Core.Path.{◌≡◌, refl, sym, subst}
use mathlib.Core.Bool.{Bool, true, false}
use mathlib.Core.List.{List}
use Prim.Native.Nat.{ℕ, suc, ◌≤◌, ◌<◌}
use native.Mathlib.Omega.{arith}
use lib.ListN.{length}
use Rattle.rules.specs.declared.Reply.{Reply}
use Rattle.rules.specs.Layouts.{Layout, context_layout, specification_layout}
use Rattle.rules.specs.Faults.{Finding, fault}
use Rattle.rules.specs.Replies.{refuses, unless, ◌or_else◌, fault_reply, record_refusal}
use Rattle.rules.specs.Matching.{skid_refusal, outside_refusal, product_refusal}
use Rattle.rules.specs.Tables.{Skid, skid_of}
use Rattle.rules.specs.Discover.{Numbered}
use Rattle.rules.specs.Continues.{every_input}
use Rattle.answers.specs.declared.Wanted.{Wanted}
use Rattle.answers.specs.declared.Wanted.TheVariants.{Plain, Unblocked}
use Rattle.answers.specs.declared.Unsolved.TheVariants.{TooMany, Nothing}
use Rattle.answers.specs.Plain.{plain}
use Rattle.answers.specs.Rounds.{is_kept, Deletion, round}
use Rattle.answers.specs.Unblocked.{sets_of, passes, unblocked, afresh}
use Rattle.answers.specs.Solve.{table_found, mode_of, answer_reply, Solution, no_table, plain_solution, unblocked_solution, solution_of, solution, stays, solved, solve_refusal, solve_for, solve_by, solve, Solved}
use Rattle.answers.proofs.Rounds.{after_rounds, rounds_at_most, rounds_deleting, lasting_after, lasting_done}

module _ (k : Skid) (sets next : List ℕ) (asked : ℕ → ℕ → Bool) where
  pub unblocked_rounds : (unblocked k sets next asked).rounds ≤ length sets
  unfolding unblocked
  unblocked_rounds = rounds_at_most (length sets) (passes k sets next asked)

  -- what is kept is what so many rounds leave
  pub kept_after_lem : (unblocked k sets next asked).kept ≡ after_rounds (length sets) (passes k sets next asked) (unblocked k sets next asked).rounds
  unfolding unblocked
  kept_after_lem = lasting_after (length sets) (passes k sets next asked)

  pub each_deletes : (j : ℕ) → j < (unblocked k sets next asked).rounds
      → ¬ (after_rounds (length sets) (passes k sets next asked) (suc j) ≡ after_rounds (length sets) (passes k sets next asked) j)
  unfolding unblocked
  each_deletes = rounds_deleting (length sets) (passes k sets next asked)

  pub last_is_last : round (length sets) (passes k sets next asked) (unblocked k sets next asked).kept ≡ (unblocked k sets next asked).kept
  unfolding unblocked
  last_is_last = lasting_done (length sets) (passes k sets next asked)

-- ---- of a reply
unblocked_few : (k : Skid) (p : Numbered) → (answer_reply (unblocked_solution k p).answer).rounds ≤ length p.states
unfolding unblocked_solution
unblocked_few k p = go (is_kept d.kept 0)
  where
    d : Deletion
    d = unblocked k p.states p.next every_input

    f : Numbered
    f = afresh k p.states p.next d.kept

    table : Solution
    table = record { answer = table_found (length f.states) d.rounds; sets = sets_of p.states f.states; next = f.next }

    go : (b : Bool) → (answer_reply (if b then table else no_table (Err (Nothing d.rounds))).answer).rounds ≤ length p.states
    go true = unblocked_rounds k p.states p.next every_input
    go false = unblocked_rounds k p.states p.next every_input

answer_few : (w : Wanted) (k : Skid) → (answer_reply (solution w k).answer).rounds ≤ length (plain k).states
unfolding solution solution_of plain_solution
answer_few w k = go (plain k).over w
  where
    go : (b : Bool) (w : Wanted) → (answer_reply (if b then no_table (Err TooMany) else solution_of w k (plain k)).answer).rounds ≤ length (plain k).states
    go true w = omega arith
    go false Plain = omega arith
    go false Unblocked = unblocked_few k (plain k)

-- the refusals of records and buffers have no rounds
or_none : (a b : Reply) → a.rounds ≡ 0 → b.rounds ≡ 0 → (a or_else b).rounds ≡ 0
unfolding ◌or_else◌
or_none a b ea eb = go (refuses a)
  where
    go : (c : Bool) → (if c then a else b).rounds ≡ 0
    go true = ea
    go false = eb

unless_none : (test : Bool) (number table : ℕ) → (unless test number table).rounds ≡ 0
unfolding unless
unless_none true number table = refl
unless_none false number table = refl

record_none : (table : ℕ) (l : Layout) (b : List ℕ) → (record_refusal table l b).rounds ≡ 0
unfolding record_refusal fault_reply
record_none table l b = go (fault l b)
  where
    go : (f : Finding) → (fault_reply table f).rounds ≡ 0
    go (Ok _) = refl
    go (Err f) = refl

module _ (context specification sets next : List ℕ) where
  refused_none : (solve_refusal context specification sets next).rounds ≡ 0
  unfolding solve_refusal skid_refusal outside_refusal product_refusal
  refused_none =
      or_none _ _ (or_none _ _ (record_none 1 context_layout context) (record_none 2 specification_layout specification))
      (or_none _ _ (unless_none _ 8 2) (or_none _ _ (unless_none _ 9 0) (unless_none _ 10 0)))

  for_few : (w : Wanted) → (solve_for context specification sets next w).reply.rounds ≤ length (plain (skid_of context specification)).states
  unfolding solve_for solved
  for_few w = go (refuses (solve_refusal context specification sets next))
    where
      go : (b : Bool) → (if b then stays sets next (solve_refusal context specification sets next) else solved sets next (solution w (skid_of context specification))).reply.rounds ≤ length (plain (skid_of context specification)).states
      go true = rw refused_none (omega arith)
      go false = answer_few w (skid_of context specification)

  by_few : (m : Option Wanted) → (solve_by context specification sets next m).reply.rounds ≤ length (plain (skid_of context specification)).states
  unfolding solve_by
  by_few None = omega arith
  by_few (Some w) = for_few w

  -- "never more than the plain states", of every reply in every mode
  pub rounds_few : (mode : ℕ) (reply : Reply) (sets' next' : List ℕ) → Solved mode context specification sets next reply sets' next'
      → reply.rounds ≤ length (plain (skid_of context specification)).states
  unfolding solve
  rounds_few mode reply sets' next' given =
      subst (λ (r : Reply). r.rounds ≤ length (plain (skid_of context specification)).states) (sym given.reply_is) (by_few (mode_of mode))
