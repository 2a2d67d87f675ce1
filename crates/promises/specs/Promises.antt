-- What the tender is owed, all of it. Each promise takes the predicate that a function ensures (`Solved`: solver::solving::solve, `Checked`: fit::checking::check,
-- `ControllerWritten`: writing::write_controller, `ControllerRead`: records::readers::read_controller) and beside it facts about the input alone. It is kept by
-- `kept` in proofs/Promises.antt.
-- Assumes nothing.
use Rattle.std.specs.Prelude.{◌≡◌, ◌↔◌, ◌⊎◌, List, ℕ, ◌+◌, ◌≤◌, length, take, drop, Some, Err, Ok}
use Rattle.words.specs.Words.{Words, ◌⊆◌}
use Rattle.words.specs.System.{Letter, Good}
use Rattle.rules.specs.declared.Reply.{Reply}
use Rattle.rules.specs.Limits.{set_numbers, next_numbers}
use Rattle.rules.specs.Counts.{context_counts}
use Rattle.rules.specs.Replies.{success}
use Rattle.rules.specs.Reading.{Reading, reading_reply, reading_counts, ControllerRead}
use Rattle.rules.specs.Writing.{places, controller_bytes, ControllerWritten}
use Rattle.rules.specs.RoundTrips.{ReadBack, WrittenBack, Bytes}
use Rattle.verdicts.specs.Verdict.{verdict_reply}
use Rattle.verdicts.specs.Check.{Checked}
use Rattle.verdicts.specs.Checkable.{Checkable, skid_system, ControllerWords}
use Rattle.answers.specs.declared.Wanted.{Wanted}
use Rattle.answers.specs.declared.Wanted.TheVariants.{Plain, Unblocked}
use Rattle.answers.specs.declared.Unsolved.TheVariants.{TooMany, Nothing}
use Rattle.answers.specs.Solve.{table_found, mode_of, answer_reply, Solved}
use Rattle.promises.specs.Solvable.{Solvable, TooManySets, WordsOf}
use Rattle.promises.specs.Rows.{IsSkidOfRows, IsTableOfRows}
use Rattle.promises.specs.Solving.{IsPlainAnswer, IsUnblockedAnswer, IsNone, IsTooMany}
use Rattle.promises.specs.Checking.{IsVerdict}

-- ---- conditions 2 and 3 of solving: of every outcome that `Solved` allows
pub record OfSolving (mode : ℕ) (context specification sets next : List ℕ) (reply : Reply) (sets' next' : List ℕ) : Type 1 where
  -- mode 0 gives the plain answer
  pub plain : mode_of mode ≡ Some Plain → Solvable context specification sets next → ¬ TooManySets context specification
      → IsPlainAnswer context specification sets next reply sets' next'
  -- mode 1 gives the unblocked answer, or "none"
  pub unblocked : mode_of mode ≡ Some Unblocked → Solvable context specification sets next → ¬ TooManySets context specification
      → IsUnblockedAnswer context specification sets next reply sets' next' ⊎ IsNone context specification sets next reply sets' next'
  -- ""None" is given exactly when there is no such controller."
  pub none_exactly : mode_of mode ≡ Some Unblocked → Solvable context specification sets next → ¬ TooManySets context specification
      → (reply.number ≡ (answer_reply (Err (Nothing 0))).number) ↔ ((X : Words (Letter (skid_system context specification))) → ¬ Good (skid_system context specification) X)
  -- 11, in either mode: "more than 512 plain states"
  pub too_many : (w : Wanted) → mode_of mode ≡ Some w → Solvable context specification sets next
      → (reply.number ≡ (answer_reply (Err TooMany)).number) ↔ TooManySets context specification
  pub too_many_is : reply.number ≡ (answer_reply (Err TooMany)).number → IsTooMany context specification sets next reply sets' next'
  -- 0, 11 and 12 are given to no other input
  pub given : (reply.number ≡ 0) ⊎ (reply.number ≡ (answer_reply (Err TooMany)).number) ⊎ (reply.number ≡ (answer_reply (Err (Nothing 0))).number)
      → ((w : Wanted) × (mode_of mode ≡ Some w)) × Solvable context specification sets next

-- ---- condition 2 of the check: of every outcome that `Checked` allows
pub record OfChecking (context specification controller sets : List ℕ) (reply : Reply) (sets' : List ℕ) : Type 0 where
  pub verdict : Checkable context specification controller sets → IsVerdict context specification controller sets reply sets'
  -- "Load no controller table that has not been through the fit check": what 0 means, for every input
  pub good : reply.number ≡ 0 → Good (skid_system context specification) (ControllerWords context specification controller)

pub record Promises : Type 1 where
  -- ---- what the words below are words of: the rows of the records
  pub skid : (context specification sets next : List ℕ) → Solvable context specification sets next → IsSkidOfRows context specification
  pub table : (context specification controller sets : List ℕ) → Checkable context specification controller sets
      → IsSkidOfRows context specification × IsTableOfRows context specification controller
  -- ---- conditions 2 and 3: solving and the check
  pub solving : (mode : ℕ) (context specification sets next : List ℕ) (reply : Reply) (sets' next' : List ℕ)
      → Solved mode context specification sets next reply sets' next' → OfSolving mode context specification sets next reply sets' next'
  pub checking : (context specification controller sets : List ℕ) (reply : Reply) (sets' : List ℕ)
      → Checked context specification controller sets reply sets' → OfChecking context specification controller sets reply sets'
  -- "Rounds .. are never more than the plain states": the rounds of any mode and the states of mode 0, of one skid
  pub rounds_few : (mode mode₁ : ℕ) (context specification sets next : List ℕ) (reply reply₁ : Reply) (sets' next' sets₁ next₁ : List ℕ)
      → Solved mode context specification sets next reply sets' next' → Solved mode₁ context specification sets next reply₁ sets₁ next₁
      → mode_of mode ≡ Some Plain → reply.number ≡ 0 → reply₁.rounds ≤ reply.states
  -- what mode 1 answers with 0, written anywhere and checked, fits
  pub solved_fits : (mode : ℕ) (context specification sets next : List ℕ) (reply : Reply) (sets' next' : List ℕ)
      → Solved mode context specification sets next reply sets' next' → mode_of mode ≡ Some Unblocked → reply.number ≡ 0
      → (buffer : List ℕ) (start : ℕ) (written : Reply) (buffer' : List ℕ)
      → ControllerWritten (context_counts context).u (context_counts context).v reply.states next' buffer start written buffer'
      → let size : ℕ = length (controller_bytes (context_counts context).u (context_counts context).v reply.states next') in start + size ≤ length buffer
      → (written ≡ success reply.states 0)
      × ((lent : List ℕ) (verdict : Reply) (lent' : List ℕ) → set_numbers ≤ length lent → Checked context specification (take size (drop start buffer')) lent verdict lent'
      → verdict ≡ verdict_reply reply.states (Ok tt))
  -- a controller record that fits lies inside what mode 1 answers, where it answers; and it does answer with a table then
  pub fits_inside : (mode : ℕ) (context specification sets next : List ℕ) (reply : Reply) (sets' next' : List ℕ)
      → Solved mode context specification sets next reply sets' next' → mode_of mode ≡ Some Unblocked
      → (reply.number ≡ 0) ⊎ (reply.number ≡ (answer_reply (Err (Nothing 0))).number)
      → (controller lent : List ℕ) (verdict : Reply) (lent' : List ℕ) → Checked context specification controller lent verdict lent' → verdict.number ≡ 0
      → (reply ≡ answer_reply (table_found reply.states reply.rounds)) × (ControllerWords context specification controller ⊆ WordsOf context specification next')
  -- ---- the strength of it: no two outcomes keep what is promised of solving
  pub one_outcome : (mode : ℕ) (w : Wanted) (context specification sets next : List ℕ) (reply reply₁ : Reply) (sets' sets₁ next' next₁ : List ℕ)
      → mode_of mode ≡ Some w → Solvable context specification sets next
      → OfSolving mode context specification sets next reply sets' next' → OfSolving mode context specification sets next reply₁ sets₁ next₁
      → (reply ≡ reply₁) × (sets' ≡ sets₁) × (next' ≡ next₁)
  -- ---- condition 2: "A controller table written and read back is unchanged, and so is a controller record read and written again."
  pub written_read : (n_u n_v states : ℕ) (next buffer : List ℕ) (start : ℕ) (reply : Reply) (buffer' : List ℕ)
      → ControllerWritten n_u n_v states next buffer start reply buffer' → reply.number ≡ 0
      → (lent : List ℕ) (r : Reading) (lent' : List ℕ) → next_numbers ≤ length lent
      → ControllerRead (take (length (controller_bytes n_u n_v states next)) (drop start buffer')) lent r lent'
      → ReadBack n_u n_v states (places n_u n_v states next) lent r lent'
  pub read_written : (b lent : List ℕ) (r : Reading) (lent' : List ℕ) → Bytes b → ControllerRead b lent r lent' → (reading_reply r).number ≡ 0
      → (buffer : List ℕ) (start : ℕ) (reply : Reply) (buffer' : List ℕ) → start + length b ≤ length buffer
      → ControllerWritten (reading_counts r).u (reading_counts r).v (reading_counts r).states lent' buffer start reply buffer'
      → WrittenBack b buffer start (reading_counts r).states reply buffer'
