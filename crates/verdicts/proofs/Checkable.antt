-- The check refuses with 1 to 10 exactly the inputs that get no verdict; all others are judged.
-- Assumes nothing.
use Rattle.std.specs.Prelude.{if◌then◌else◌}
use mathlib.Core.Path.{◌≡◌, refl, sym, ap, ◌∙◌}
use mathlib.Core.Logic.{◌⊎◌, ⊎_elim}
use mathlib.Core.Bool.{Bool, true, false, not, true≢false}
use mathlib.Core.List.{List}
use Prim.Native.Nat.{ℕ, ◌≤◌, ◌<◌}
use native.Mathlib.Omega.{arith}
use lib.Dec.{leb, eqb}
use lib.ListN.{length}
use borrow.Author.Tests.{le-leb, leb-true}
use Rattle.rules.specs.declared.Reply.{Reply}
use Rattle.rules.specs.Limits.{set_numbers}
use Rattle.rules.specs.Layouts.{Layout, context_layout, specification_layout, controller_layout}
use Rattle.rules.specs.Faults.{fault}
use Rattle.rules.specs.Counts.{controller_counts}
use Rattle.rules.specs.Replies.{refuses, unless, ◌or_else◌, fault_reply, record_refusal}
use Rattle.rules.specs.Tables.{skid_of, controller_table}
use Rattle.rules.specs.Matching.{skid_refusal, outside_agree, letters_agree, product_fits, outside_refusal, letters_refusal, product_refusal}
use Rattle.rules.proofs.ReadsFine.{no_fault}
use Rattle.rules.proofs.NotRefused.{or_else_fine, unless_fine, or_else_most, unless_most, record_most}
use Rattle.verdicts.specs.Check.{CheckOutcome, check_refusal, judge, check}
use Rattle.verdicts.specs.Checkable.{Checkable}

module _ (context specification controller sets : List ℕ) where
  pub checkable_fine : Checkable context specification controller sets → refuses (check_refusal context specification controller sets) ≡ false
  unfolding check_refusal skid_refusal record_refusal fault_reply outside_refusal letters_refusal product_refusal ◌or_else◌ unless
  checkable_fine c = rw (c.context_sound, c.specification_sound, c.controller_sound, c.outside_agrees, c.letters_agree_lem, c.product_fits_lem, le-leb set_numbers (length sets) c.room)

  pub judged : Checkable context specification controller sets
      → check context specification controller sets ≡ judge (skid_of context specification) (controller_counts controller).states (controller_table controller) sets
  unfolding check
  judged c = rw (checkable_fine c)

  fine_checkable : refuses (check_refusal context specification controller sets) ≡ false → Checkable context specification controller sets
  unfolding check_refusal skid_refusal record_refusal outside_refusal letters_refusal product_refusal
  fine_checkable e =
      let (skid, r₁) = or_else_fine (skid_refusal context specification) _ e in
      let (e₁, e₂) = or_else_fine (record_refusal 1 context_layout context) (record_refusal 2 specification_layout specification) skid in
      let (e₃, r₃) = or_else_fine (record_refusal 3 controller_layout controller) _ r₁ in
      let (e₄, r₄) = or_else_fine (outside_refusal context specification) _ r₃ in
      let (e₅, r₅) = or_else_fine (letters_refusal context controller) _ r₄ in
      let (e₆, e₇) = or_else_fine (product_refusal context specification) _ r₅ in
      record {
        context_sound = no_fault 1 (fault context_layout context) e₁;
        specification_sound = no_fault 2 (fault specification_layout specification) e₂;
        controller_sound = no_fault 3 (fault controller_layout controller) e₃;
        outside_agrees = unless_fine (outside_agree context specification) 8 2 refl e₄;
        letters_agree_lem = unless_fine (letters_agree context controller) 8 3 refl e₅;
        product_fits_lem = unless_fine (product_fits context specification) 9 0 refl e₆;
        room = leb-true set_numbers (length sets) (unless_fine (leb set_numbers (length sets)) 10 0 refl e₇);
      }

  refusal_most : (check_refusal context specification controller sets).number ≤ 10
  unfolding check_refusal skid_refusal outside_refusal letters_refusal product_refusal
  refusal_most =
      or_else_most 10 (skid_refusal context specification) _ (or_else_most 10 (record_refusal 1 context_layout context) (record_refusal 2 specification_layout specification) (read 1 context_layout context) (read 2 specification_layout specification))
      (or_else_most 10 (record_refusal 3 controller_layout controller) _ (read 3 controller_layout controller)
      (or_else_most 10 (outside_refusal context specification) _ (unless_most 10 (outside_agree context specification) 8 2 (omega arith))
      (or_else_most 10 (letters_refusal context controller) _ (unless_most 10 (letters_agree context controller) 8 3 (omega arith))
      (or_else_most 10 (product_refusal context specification) _ (unless_most 10 (product_fits context specification) 9 0 (omega arith)) (unless_most 10 (leb set_numbers (length sets)) 10 0 (omega arith))))))
    where
      read : (table : ℕ) (l : Layout) (b : List ℕ) → (record_refusal table l b).number ≤ 10
      read table l b = let h = record_most table l b in omega arith

  -- 0, and a number from 11 on, is the number of a verdict
  pub verdict_checkable : ((check context specification controller sets).reply.number ≡ 0) ⊎ (10 < (check context specification controller sets).reply.number)
      → Checkable context specification controller sets
  unfolding check
  verdict_checkable = go (refuses refused) refl _
    where
      refused : Reply
      refused = check_refusal context specification controller sets

      go : (b : Bool) → refuses refused ≡ b → (done : CheckOutcome)
          → let outcome : CheckOutcome = if b then record { reply = refused; sets = sets } else done in (outcome.reply.number ≡ 0) ⊎ (10 < outcome.reply.number)
          → Checkable context specification controller sets
      go true e done h = absurd (⊎_elim (λ z. true≢false (sym e ∙ ap (λ n. not (eqb n 0)) z)) (λ l. let m = refusal_most in omega arith) h)
      go false e done h = fine_checkable e
