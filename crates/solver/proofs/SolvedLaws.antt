-- Solving not refused, for whatever answer is wanted: two records that match, and the answer as the outcome.
-- Assumes nothing.
use Rattle.std.specs.Prelude.{Ok}
use mathlib.Core.Path.{◌≡◌, refl, sym, ap, subst, ◌∙◌}
use mathlib.Core.Bool.{true, false, ◌&&◌}
use mathlib.Core.List.{List}
use Prim.Native.Nat.{ℕ, ◌≤◌}
use native.Mathlib.Omega.{arith}
use lib.Dec.{T, leb}
use lib.ListN.{length}
use mir.Facts.{and_yes, leb_yes}
use Rattle.rules.specs.Counts.{context_counts, specification_counts}
use Rattle.rules.specs.Limits.{set_numbers, next_numbers}
use Rattle.rules.specs.Replies.{refuses, ◌or_else◌}
use Rattle.rules.specs.Tables.{skid_of, specification_table}
use Rattle.rules.specs.Matching.{outside_agree, product_fits}
use Rattle.rules.proofs.NotRefused.{or_else_fine, unless_fine}
use Rattle.answers.specs.declared.Wanted.{Wanted}
use Rattle.answers.specs.Solve.{Answer, answer_reply, solution, solved, solve_refusal, solve_for, SolvedFor}
use Rattle.tables.specs.declared.Sizes.{Sizes}
use Rattle.tables.specs.Workable.{skid_in}
use Rattle.tables.specs.declared.skids.SkidCounts.{SkidCounts}
use Rattle.tables.specs.Skids.{sizes_of, skid_reading, SkidRead}
use Rattle.tables.proofs.SkidReadLaws.{skid_read, skid_fine}
use Rattle.tables.proofs.SkidLaws.{skid_is, sizes_are, sizes_workable, specification_long}
use Rattle.solver.specs.Inside.{Answered}
use Rattle.solver.specs.Matched.{match_refusal, Matching, Matched}
use Rattle.solver.proofs.MatchLaws.{solve_refusal_lem}
use Rattle.solver.proofs.RefusedLaws.{match_told}

-- both buffers pass
rooms : (a b c d : ℕ) → (leb a b && leb c d) ≡ true → (a ≤ b) × (c ≤ d)
rooms a b c d e = let (t, t') = and_yes (leb a b) (leb c d) (subst T (sym e) tt) in (leb_yes t, leb_yes t')

module _ (context specification sets next : List ℕ) (k : SkidCounts) (read : Ok k ≡ skid_reading context specification)
    (u : Unit) (matching : Matching k (length sets) (length next) (Ok u)) where
  skid : SkidRead context specification k
  skid = skid_read context specification k read

  match_fine : refuses (match_refusal (context_counts context) (specification_counts specification) (length sets) (length next)) ≡ false
  match_fine = ap refuses (sym (match_told context specification (length sets) (length next) k skid (Ok u) matching))

  -- no refusal 1 to 10
  not_refused : refuses (solve_refusal context specification sets next) ≡ false
  unfolding ◌or_else◌
  not_refused = ap refuses (solve_refusal_lem context specification sets next) ∙ rw (skid_fine context specification k skid) match_fine

  module _ (z : Sizes) (z_is : z ≡ sizes_of k.context k.specification 512) where
    pub matched : Matched z context specification sets next
    unfolding match_refusal outside_agree product_fits
    matched =
        let (e₁, r₁) = or_else_fine _ _ match_fine in
        let (e₂, e₃) = or_else_fine _ _ r₁ in
        let (h, h') = rooms set_numbers (length sets) next_numbers (length next) (unless_fine _ 10 0 refl e₃) in
        subst (λ z. Matched z context specification sets next) (sym (sizes_are context specification 512 k skid z z_is)) (record {
          workable = sizes_workable context specification 512 k skid (omega arith) (unless_fine _ 9 0 refl e₂);
          table_long = specification_long context specification 512 (unless_fine _ 8 2 refl e₁);
          long = record { sets_room = h; next_room = h' };
        })

    pub solve_done : (w : Wanted) (answer : Answer) (sets' next' : List ℕ)
        → Answered (solution w (skid_in z context (specification_table specification))) answer sets' next' sets next
        → SolvedFor w context specification sets next (answer_reply answer) sets' next'
    unfolding solve_for solved
    solve_done w answer sets' next' done = record {
      reply_is = ap answer_reply so.answer_is ∙ sym (rw not_refused);
      sets_are = so.sets_are ∙ sym (rw not_refused);
      next_is = so.next_is ∙ sym (rw not_refused);
    }
      where
        so : Answered (solution w (skid_of context specification)) answer sets' next' sets next
        so = subst (λ k. Answered (solution w k) answer sets' next' sets next)
            (ap (λ z. skid_in z context (specification_table specification)) (sizes_are context specification 512 k skid z z_is) ∙ skid_is context specification 512) done
