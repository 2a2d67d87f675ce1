-- What the check replies keeps what is promised of it: each verdict, by its whole reply, says of the controller's words what the theory says.
-- Assumes nothing.
use Rattle.std.specs.Prelude.{Ok, Err}
use mathlib.Core.Path.{◌≡◌, sym, ap, ◌∙◌}
use mathlib.Core.Logic.Iff
use mathlib.Core.Logic.{◌↔◌, ⊎_map}
use mathlib.Core.List.{List}
use Prim.Native.Nat.{ℕ}
use native.Mathlib.Omega.{arith}
use Rattle.rules.specs.declared.Reply.{Reply}
use Rattle.rules.specs.Counts.{controller_counts}
use Rattle.rules.specs.Replies.{refusal}
use Rattle.verdicts.specs.declared.Misfit.TheVariants.{Incomplete, Leaves, Blocks}
use Rattle.verdicts.specs.Verdict.{Verdict, verdict_reply}
use Rattle.verdicts.specs.Check.{Checked}
use Rattle.verdicts.specs.Checkable.{Checkable}
use Rattle.verdicts.proofs.Checked.{check_fits, check_incomplete, check_leaves, check_blocks, check_numbers, check_success, check_refusal_lem, check_pairs, check_zeros, check_good}
use Rattle.promises.specs.Checking.{Says, IsVerdict}
use Rattle.promises.specs.Promises.{OfChecking}

module _ (context specification controller sets : List ℕ) (reply : Reply) (sets' : List ℕ) (done : Checked context specification controller sets reply sets') where
  abbrev states : ℕ
  states = (controller_counts controller).states

  module _ (can : Checkable context specification controller sets) where
    -- a number past 0 has one reply
    refused : (n : ℕ) → ¬ (n ≡ 0) → reply.number ≡ n → reply ≡ refusal n 0 0 0
    refused n other e = check_refusal_lem done can (λ z. other (sym e ∙ z)) ∙ ap (λ n. refusal n 0 0 0) e

    -- the reply of a verdict is the reply with its number
    says : (v : Verdict) → Says context specification controller sets reply sets' v ↔ (reply.number ≡ (verdict_reply states v).number)
    says v = (ap (λ r. r.number), whole v)
      where
        whole : (v : Verdict) → reply.number ≡ (verdict_reply states v).number → reply ≡ verdict_reply states v
        whole (Err Incomplete) = refused 14 (λ e. omega arith)
        whole (Err Leaves) = refused 15 (λ e. omega arith)
        whole (Err Blocks) = refused 16 (λ e. omega arith)
        whole (Ok tt) = check_success done can

    verdict_kept : IsVerdict context specification controller sets reply sets'
    verdict_kept = record {
      one_of_four = ⊎_map (says (Ok tt)).1 (⊎_map (says (Err Incomplete)).1 (⊎_map (says (Err Leaves)).1 (says (Err Blocks)).1)) (check_numbers done can);
      fits = Iff.trans (says (Ok tt)) (check_fits done can);
      incomplete = Iff.trans (says (Err Incomplete)) (check_incomplete done can);
      leaves = Iff.trans (says (Err Leaves)) (check_leaves done can);
      blocks = Iff.trans (says (Err Blocks)) (check_blocks done can);
      pairs = λ n. check_pairs done can (λ e. n ((says (Err Incomplete)).1 e));
      zeros = λ e. check_zeros done can ((says (Err Incomplete)).0 e);
    }

  pub checking_keeps : OfChecking context specification controller sets reply sets'
  checking_keeps = record { verdict = verdict_kept; good = check_good done }
