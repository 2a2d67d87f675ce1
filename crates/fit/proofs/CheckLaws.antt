-- The check not refused: three records that may be checked, the controller's next table as it is lent, and the verdict as the outcome.
-- Assumes nothing.
use Rattle.std.specs.Prelude.{Ok}
use mathlib.Core.Path.{◌≡◌, refl, sym, ap, subst₂, ◌∙◌}
use mathlib.Core.List.{List, ◌++◌, append_assoc}
use Prim.Native.Nat.{ℕ, ◌-◌, ◌*◌}
use native.Mathlib.Omega.{arith}
use lib.ListN.{length, take, drop, replicate}
use lib.Seq.{take_at}
use borrow.Author.Tests.{leb-true}
use Rattle.pairs.specs.Lent.{filled, encoded_sets}
use Rattle.rules.specs.declared.Reply.{Reply}
use Rattle.rules.specs.declared.Counts.{Counts}
use Rattle.rules.specs.Limits.{set_numbers, next_numbers}
use Rattle.rules.specs.Counts.{controller_counts}
use Rattle.rules.specs.Replies.{refuses}
use Rattle.rules.specs.Tables.{skid_of, specification_table, controller_table}
use Rattle.rules.specs.Matching.{outside_agree, letters_agree, product_fits}
use Rattle.rules.specs.Reading.{ControllerRead}
use Rattle.rules.proofs.ReadsFine.{read_next}
use Rattle.rules.proofs.NotRefused.{or_else_fine, unless_fine}
use Rattle.verdicts.specs.Triples.{triples}
use Rattle.verdicts.specs.Verdict.{Verdict, verdict_reply}
use Rattle.verdicts.specs.Check.{sets_named, judge, Checked}
use Rattle.verdicts.specs.Checkable.{Checkable}
use Rattle.verdicts.proofs.Checkable.{judged}
use Rattle.tables.specs.declared.Sizes.{Sizes}
use Rattle.tables.specs.declared.skids.SkidCounts.{SkidCounts}
use Rattle.tables.specs.Skids.{sizes_of, skid_reading, SkidRead}
use Rattle.tables.proofs.SkidReadLaws.{skid_read}
use Rattle.tables.proofs.SkidLaws.{sizes_read, sizes_are, specification_long}
use Rattle.fit.specs.Ready.{Ready, Judged}
use Rattle.fit.specs.Matched.{match_refusal, Matched}
use Rattle.fit.proofs.SizesLaws.{sizes_read_lem, sizes_ready, controller_long, table_few}
use Rattle.fit.proofs.ReadingLaws.{controller_sound, controller_counts_lem}
use Rattle.fit.proofs.RefusedLaws.{counts_told}

-- the front of a filled buffer
front_filled : (n : ℕ) (part buffer : List ℕ) (size : ℕ) → length part ≡ size → take size (filled n part buffer) ≡ part
unfolding filled
front_filled n part buffer size e = rw append_assoc (take_at part (replicate (n - length part) 0 ++ drop n buffer) size e)

module _ (context specification controller sets : List ℕ) where
  -- the verdict is the outcome
  check_judged : Checkable context specification controller sets → (v : Verdict) (sets' : List ℕ)
      → Judged (sizes_read_lem context specification controller) context (specification_table specification) (controller_table controller) sets v sets'
      → (r : Reply) → r ≡ verdict_reply (controller_counts controller).states v → Checked context specification controller sets r sets'
  unfolding skid_of judge
  check_judged ok v sets' j r e =
      let outcome = judged context specification controller sets ok in
      let states : ℕ = (controller_counts controller).states in
      let reached : List ℕ = encoded_sets (triples (skid_of context specification) states (controller_table controller)) in
      record {
        reply_is = e ∙ ap (verdict_reply states) j.verdict_is ∙ sym (ap (λ o. o.reply) outcome);
        sets_are = j.sets_are ∙ ap (λ v. filled set_numbers (sets_named reached v) sets) j.verdict_is ∙ sym (ap (λ o. o.sets) outcome);
      }

  module _ (k : SkidCounts) (reading : Ok k ≡ skid_reading context specification) (array : List ℕ) (whole : length array ≡ 8192) (next : List ℕ) (t : Counts) (read : ControllerRead controller array (Ok t) next) (match : Ok tt ≡ match_refusal k t (length sets)) where
    skid : SkidRead context specification k
    skid = skid_read context specification k reading

    counts_are : t ≡ controller_counts controller
    counts_are = controller_counts_lem controller array whole next t read

    -- no refusal 1 to 10
    checkable : Checkable context specification controller sets
    unfolding outside_agree letters_agree product_fits
    checkable =
        let e₀ = ap refuses (sym (counts_told context specification controller sets k reading array whole next t read (Ok tt) match)) in
        let (e₁, r₁) = or_else_fine _ _ e₀ in
        let (e₂, r₂) = or_else_fine _ _ r₁ in
        let (e₃, e₄) = or_else_fine _ _ r₂ in
        record {
          context_sound = skid.context_sound;
          specification_sound = skid.specification_sound;
          controller_sound = controller_sound controller array whole next t read;
          outside_agrees = unless_fine _ 8 2 refl e₁;
          letters_agree_lem = unless_fine _ 8 3 refl e₂;
          product_fits_lem = unless_fine _ 9 0 refl e₃;
          room = leb-true set_numbers (length sets) (unless_fine _ 10 0 refl e₄);
        }

    module _ (z : Sizes) (z_is : z ≡ sizes_of k.context k.specification t.states) where
      counted : z ≡ sizes_read_lem context specification controller
      counted = sizes_are context specification t.states k skid z z_is ∙ ap (λ t. sizes_read context specification t.states) counts_are

      -- the part of the next table that is lent
      lent_is : take (z.states * z.letters) next ≡ controller_table controller
      unfolding next_numbers
      lent_is =
          ap (take (z.states * z.letters)) (read.next_is ∙ read_next controller array checkable.controller_sound (omega (arith, whole)))
          ∙ front_filled 8192 (controller_table controller) array (z.states * z.letters) (controller_long context specification controller sets checkable ∙ ap (λ z. z.states * z.letters) (sym counted))

      pub matched : length next ≡ 8192 → Matched z context specification next sets
      matched e = record {
        ready = ready_so;
        table_long = specification_long context specification (controller_counts controller).states checkable.outside_agrees ∙ ap (λ z. z.specifications * z.steps) (sym counted);
        next_long = omega (arith, e, table_few z ready_so.workable.few);
        room = checkable.room;
      }
        where
          ready_so : Ready z context (specification_table specification) (take (z.states * z.letters) next)
          ready_so = subst₂ (λ z l. Ready z context (specification_table specification) l) (sym counted) (sym lent_is) (sizes_ready context specification controller sets checkable)

      pub check_done : (v : Verdict) (sets' : List ℕ) → Judged z context (specification_table specification) (take (z.states * z.letters) next) sets v sets'
          → (r : Reply) → r ≡ verdict_reply t.states v → Checked context specification controller sets r sets'
      check_done v sets' j r e =
          check_judged checkable v sets' (subst₂ (λ z l. Judged z context (specification_table specification) l sets v sets') counted lent_is j) r
          (e ∙ ap (λ c. verdict_reply c.states v) counts_are)
