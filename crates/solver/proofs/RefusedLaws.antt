-- Solving refused, for whatever answer is wanted: the first refusal is the reply, and the lent buffers are as they were.
-- Assumes nothing.
use Rattle.std.specs.Prelude.{Result, Ok, Err}
use mathlib.Core.Path.{◌≡◌, sym, ◌∙◌}
use mathlib.Core.List.{List}
use Prim.Native.Nat.{ℕ}
use lib.ListN.{length}
use Rattle.rules.specs.declared.Refusal.{Refusal}
use Rattle.rules.specs.Counts.{context_counts, specification_counts}
use Rattle.rules.specs.Replies.{refusal_reply}
use Rattle.answers.specs.declared.Wanted.{Wanted}
use Rattle.answers.specs.Solve.{solve_refusal, solve_for, SolvedFor}
use Rattle.tables.specs.declared.skids.SkidCounts.{SkidCounts}
use Rattle.tables.specs.Skids.{skid_reading, outcome_reply, SkidRead}
use Rattle.tables.proofs.SkidReadLaws.{skid_read, skid_refused, skid_passes}
use Rattle.tables.proofs.SkidMatchLaws.{refusal_refuses, refused_first, fine_first}
use Rattle.solver.specs.Matched.{match_refusal, Matching}
use Rattle.solver.proofs.MatchLaws.{solve_refusal_lem}

-- what is found of the counts that were read is found of those of the records
pub match_told : (context specification : List ℕ) (sets next : ℕ) (k : SkidCounts) → SkidRead context specification k → (r : Result Unit Refusal)
    → Matching k sets next r → outcome_reply r ≡ match_refusal (context_counts context) (specification_counts specification) sets next
match_told context specification sets next k skid r e = e ∙ rw skid.counts_are

module _ (w : Wanted) (context specification sets next : List ℕ) (r : Refusal) where
  -- "on other refusals nothing is written"
  stays : refusal_reply r ≡ solve_refusal context specification sets next → SolvedFor w context specification sets next (refusal_reply r) sets next
  unfolding solve_for
  stays e = record {
    reply_is = sym (rw (← e, refusal_refuses r));
    sets_are = sym (rw (← e, refusal_refuses r));
    next_is = sym (rw (← e, refusal_refuses r));
  }

  pub skid_stays : Err r ≡ skid_reading context specification → SolvedFor w context specification sets next (refusal_reply r) sets next
  skid_stays e = stays (refused_first r _ _ (skid_refused context specification r e) ∙ sym (solve_refusal_lem context specification sets next))

  pub match_stays : (k : SkidCounts) → Ok k ≡ skid_reading context specification → Matching k (length sets) (length next) (Err r)
      → SolvedFor w context specification sets next (refusal_reply r) sets next
  match_stays k read found =
      let skid = skid_read context specification k read in
      stays (match_told context specification (length sets) (length next) k skid (Err r) found
      ∙ sym (fine_first _ _ (skid_passes context specification k skid)) ∙ sym (solve_refusal_lem context specification sets next))
