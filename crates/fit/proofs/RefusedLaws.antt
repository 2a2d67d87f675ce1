-- The check refused: the first refusal gives the reply, and the lent numbers are as they were.
-- Assumes nothing.
use Rattle.std.specs.Prelude.{Result, Ok, Err}
use mathlib.Core.Path.{◌≡◌, sym, ◌∙◌}
use mathlib.Core.List.{List}
use Prim.Native.Nat.{ℕ}
use lib.ListN.{length}
use Rattle.rules.specs.declared.Reply.{Reply}
use Rattle.rules.specs.declared.Counts.{Counts}
use Rattle.rules.specs.declared.Refusal.{Refusal}
use Rattle.rules.specs.Layouts.{controller_layout}
use Rattle.rules.specs.Counts.{controller_counts}
use Rattle.rules.specs.Faults.{fault}
use Rattle.rules.specs.Replies.{fine, ◌or_else◌, fault_reply, record_refusal, refusal_reply}
use Rattle.rules.specs.Matching.{skid_refusal}
use Rattle.rules.specs.Reading.{ControllerRead}
use Rattle.verdicts.specs.Check.{check_refusal, check, Checked}
use Rattle.tables.specs.declared.skids.SkidCounts.{SkidCounts}
use Rattle.tables.specs.Skids.{skid_reading, skid_counts, outcome_reply}
use Rattle.tables.proofs.SkidReadLaws.{skid_read, skid_refused, skid_passes}
use Rattle.tables.proofs.SkidMatchLaws.{refusal_refuses, refused_first, fine_first}
use Rattle.fit.specs.Matched.{match_refusal}
use Rattle.fit.proofs.MatchLaws.{match_reply, match_told, check_refusal_lem}
use Rattle.fit.proofs.ReadingLaws.{controller_refused, controller_sound, controller_counts_lem}

record_fine : (b : List ℕ) → fault controller_layout b ≡ Ok tt → fine ≡ record_refusal 3 controller_layout b
unfolding record_refusal fault_reply
record_fine b e = rw e

module _ (context specification controller sets : List ℕ) where
  abbrev refused : Reply
  refused =
      skid_refusal context specification or_else record_refusal 3 controller_layout controller
      or_else match_reply (skid_counts context specification) (controller_counts controller) (length sets)

  -- "otherwise unwritten"
  stays : (r : Refusal) → refusal_reply r ≡ refused → Checked context specification controller sets (refusal_reply r) sets
  unfolding check
  stays r e =
      let first : check_refusal context specification controller sets ≡ refusal_reply r = check_refusal_lem context specification controller sets ∙ sym e in
      record { reply_is = sym (rw (first, refusal_refuses r)); sets_are = sym (rw (first, refusal_refuses r)) }

  pub skid_stays : (r : Refusal) → Err r ≡ skid_reading context specification → Checked context specification controller sets (refusal_reply r) sets
  skid_stays r e = stays r (refused_first r _ _ (skid_refused context specification r e))

  module _ (k : SkidCounts) (skid : Ok k ≡ skid_reading context specification) (array : List ℕ) (whole : length array ≡ 8192) (next : List ℕ) where
    skid_first : refused ≡ (record_refusal 3 controller_layout controller or_else match_reply (skid_counts context specification) (controller_counts controller) (length sets))
    skid_first = fine_first _ _ (skid_passes context specification k (skid_read context specification k skid))

    pub controller_stays : (r : Refusal) → ControllerRead controller array (Err r) next → Checked context specification controller sets (refusal_reply r) sets
    controller_stays r read = stays r (refused_first r _ _ (controller_refused controller array whole next r read) ∙ sym skid_first)

    module _ (t : Counts) (read : ControllerRead controller array (Ok t) next) where
      -- what is found of the counts that were read is found of those of the records
      pub counts_told : (r : Result Unit Refusal) → r ≡ match_refusal k t (length sets)
          → outcome_reply r ≡ match_reply (skid_counts context specification) (controller_counts controller) (length sets)
      counts_told r e =
          match_told (skid_counts context specification) (controller_counts controller) (length sets) r
          (e ∙ rw ((skid_read context specification k skid).counts_are, controller_counts_lem controller array whole next t read))

      pub match_stays : (r : Refusal) → Err r ≡ match_refusal k t (length sets) → Checked context specification controller sets (refusal_reply r) sets
      match_stays r e = stays r (counts_told (Err r) e ∙ sym (fine_first _ _ (record_fine controller (controller_sound controller array whole next t read))) ∙ sym skid_first)
