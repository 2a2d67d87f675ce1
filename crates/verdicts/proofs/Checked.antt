-- What the reply and the lent numbers of the check mean, for every input that gets a verdict; 0, 14, 15 and 16 are given to no other.
-- Assumes nothing.
use Rattle.std.specs.Prelude.{if◌then◌else◌, Ok, Err}
use mathlib.Core.Path.{◌≡◌, refl, sym, ap, subst, ◌∙◌}
use mathlib.Core.Logic.Iff
use mathlib.Core.Logic.{◌↔◌, ◌⊎◌, inl, inr, ◌≢◌}
use mathlib.Core.List.{List, [], ◌++◌}
use Prim.Native.Nat.{ℕ, ◌<◌}
use native.Mathlib.Nat.{sub-zero}
use lib.Dec.{eqb}
use lib.ListN.{drop, replicate}
use Rattle.words.specs.System.{Good}
use Rattle.words.specs.Faulty.{LacksReply, LeavesSpecification, LacksContinuation}
use Rattle.pairs.specs.Lent.{filled, encoded_sets}
use Rattle.rules.specs.declared.Reply.{Reply}
use Rattle.rules.specs.Limits.{set_numbers}
use Rattle.rules.specs.Counts.{controller_counts}
use Rattle.rules.specs.Replies.{success, refusal}
use Rattle.rules.specs.Tables.{Skid, skid_of, controller_table}
use Rattle.rules.specs.Continues.{every_input}
use Rattle.rules.specs.Meaning.{NextTable, Legal}
use Rattle.rules.proofs.Legal.{legal_skid, read_controller_lem}
use Rattle.verdicts.specs.declared.Misfit.TheVariants.{Incomplete, Leaves, Blocks}
use Rattle.verdicts.specs.Triples.{triples}
use Rattle.verdicts.specs.Verdict.{Verdict, verdict_reply, verdict}
use Rattle.verdicts.specs.Check.{Checked, sets_named, judge}
use Rattle.verdicts.specs.Checkable.{Checkable, skid_system, ControllerWords, HoldReachedPairs}
use Rattle.verdicts.proofs.Triples.{triples_length, triples_pairs, triples_exactly}
use Rattle.verdicts.proofs.Verdicts.{verdict_incomplete, verdict_leaves, verdict_blocks, verdict_fits}
use Rattle.verdicts.proofs.Checkable.{judged, verdict_checkable}

-- the verdict that has a number
abbrev verdict_of : ℕ → Verdict
verdict_of n = if eqb n 14 then Err Incomplete else if eqb n 15 then Err Leaves else if eqb n 16 then Err Blocks else Ok tt

verdict_back : (states : ℕ) (v : Verdict) → verdict_of (verdict_reply states v).number ≡ v
verdict_back states (Err Incomplete) = refl
verdict_back states (Err Leaves) = refl
verdict_back states (Err Blocks) = refl
verdict_back states (Ok tt) = refl

-- a number is that of one verdict
number_law : (states : ℕ) (v w : Verdict) → ((verdict_reply states v).number ≡ (verdict_reply states w).number) ↔ (v ≡ w)
number_law states v w = (λ e. sym (verdict_back states v) ∙ ap verdict_of e ∙ verdict_back states w, ap (λ v. (verdict_reply states v).number))

one_of_four : (states : ℕ) (v : Verdict) → let n : ℕ = (verdict_reply states v).number in (n ≡ 0) ⊎ (n ≡ 14) ⊎ (n ≡ 15) ⊎ (n ≡ 16)
one_of_four states (Err Incomplete) = inr (inl refl)
one_of_four states (Err Leaves) = inr (inr (inl refl))
one_of_four states (Err Blocks) = inr (inr (inr refl))
one_of_four states (Ok tt) = inl refl

module _ {context specification controller sets : List ℕ} {reply : Reply} {sets' : List ℕ} (done : Checked context specification controller sets reply sets') where
  -- 0, and a number past 10, is given to no other input
  pub verdict_given : (reply.number ≡ 0) ⊎ (10 < reply.number) → Checkable context specification controller sets
  verdict_given h = verdict_checkable context specification controller sets (subst (λ r. (r.number ≡ 0) ⊎ (10 < r.number)) done.reply_is h)

  module _ (can : Checkable context specification controller sets) where
    abbrev k : Skid
    k = skid_of context specification

    abbrev states : ℕ
    states = (controller_counts controller).states

    abbrev next : List ℕ
    next = controller_table controller

    abbrev found : Verdict
    found = verdict k states next every_input

    legal : Legal k
    legal = legal_skid context specification can.context_sound can.specification_sound

    table : NextTable states next
    table = read_controller_lem controller can.controller_sound

    reply_found : reply ≡ verdict_reply states found
    unfolding judge
    reply_found = done.reply_is ∙ ap (λ o. o.reply) (judged context specification controller sets can)

    sets_found : sets' ≡ filled set_numbers (sets_named (encoded_sets (triples k states next)) found) sets
    unfolding judge
    sets_found = done.sets_are ∙ ap (λ o. o.sets) (judged context specification controller sets can)

    -- the reply has the number of a verdict exactly if that is found
    found_law : (v : Verdict) → (reply.number ≡ (verdict_reply states v).number) ↔ (found ≡ v)
    found_law v = subst (λ r. (r.number ≡ (verdict_reply states v).number) ↔ (found ≡ v)) (sym reply_found) (number_law states found v)

    -- "14, 15, 16 | fit check: incomplete, leaves, blocks", and "Success is 0"
    pub check_fits : (reply.number ≡ 0) ↔ Good (skid_system context specification) (ControllerWords context specification controller)
    check_fits = Iff.trans (found_law (Ok tt)) (verdict_fits k every_input legal states next table)

    pub check_incomplete : (reply.number ≡ 14) ↔ LacksReply (skid_system context specification) (ControllerWords context specification controller)
    check_incomplete = Iff.trans (found_law (Err Incomplete)) (verdict_incomplete k every_input legal states next table)

    pub check_leaves : (reply.number ≡ 15)
        ↔ ((¬ LacksReply (skid_system context specification) (ControllerWords context specification controller))
        × LeavesSpecification (skid_system context specification) (ControllerWords context specification controller))
    check_leaves = Iff.trans (found_law (Err Leaves)) (verdict_leaves k every_input legal states next table)

    pub check_blocks : (reply.number ≡ 16)
        ↔ ((¬ LacksReply (skid_system context specification) (ControllerWords context specification controller))
        × (¬ LeavesSpecification (skid_system context specification) (ControllerWords context specification controller))
        × LacksContinuation (skid_system context specification) (ControllerWords context specification controller))
    check_blocks = Iff.trans (found_law (Err Blocks)) (verdict_blocks k every_input legal states next table)

    pub check_numbers : (reply.number ≡ 0) ⊎ (reply.number ≡ 14) ⊎ (reply.number ≡ 15) ⊎ (reply.number ≡ 16)
    check_numbers = subst (λ r. (r.number ≡ 0) ⊎ (r.number ≡ 14) ⊎ (r.number ≡ 15) ⊎ (r.number ≡ 16)) (sym reply_found) (one_of_four states found)

    -- success gives the states "of the controller checked"; "Refusals give 0 states"
    pub check_success : reply.number ≡ 0 → reply ≡ success (controller_counts controller).states 0
    check_success e = reply_found ∙ ap (verdict_reply states) ((found_law (Ok tt)).0 e)

    pub check_refusal_lem : reply.number ≢ 0 → reply ≡ refusal reply.number 0 0 0
    check_refusal_lem n = subst (λ r. r.number ≢ 0 → r ≡ refusal r.number 0 0 0) (sym reply_found) (go found) n
      where
        go : (v : Verdict) → (verdict_reply states v).number ≢ 0 → verdict_reply states v ≡ refusal (verdict_reply states v).number 0 0 0
        go (Err Incomplete) n = refl
        go (Err Leaves) n = refl
        go (Err Blocks) n = refl
        go (Ok tt) n = absurd (n refl)

    -- "on 0, 15 and 16 the reached pairs of each controller state, zeros after"
    pub check_pairs : reply.number ≢ 14 → HoldReachedPairs context specification controller sets sets'
    unfolding sets_named skid_of
    check_pairs n = record {
      reached = triples k states next;
      each_state = triples_length k every_input legal states next table;
      lent = sets_found ∙ ap (λ part. filled set_numbers part sets) (go found (λ e. n ((found_law (Err Incomplete)).1 e)));
      exactly = λ d h a c. (
        λ m. (triples_exactly k every_input legal states next table a c d).0 (h, m),
        λ t. ((triples_exactly k every_input legal states next table a c d).1 t).1,
      );
      only_pairs = triples_pairs k every_input legal states next table;
    }
      where
        go : (v : Verdict) → v ≢ Err Incomplete → sets_named (encoded_sets (triples k states next)) v ≡ encoded_sets (triples k states next)
        go (Err Incomplete) n = absurd (n refl)
        go (Err Leaves) n = refl
        go (Err Blocks) n = refl
        go (Ok tt) n = refl

    -- "on 14 all zero"
    pub check_zeros : reply.number ≡ 14 → sets' ≡ replicate set_numbers 0 ++ drop set_numbers sets
    unfolding sets_named filled
    check_zeros e = sets_found ∙ ap (λ v. filled set_numbers (sets_named (encoded_sets (triples k states next)) v) sets) ((found_law (Err Incomplete)).0 e) ∙ none_named
      where
        none_named : filled set_numbers [] sets ≡ replicate set_numbers 0 ++ drop set_numbers sets
        none_named = ap (λ n. replicate n 0 ++ drop set_numbers sets) (sub-zero set_numbers)

  -- what 0 means, for every input: "Load no controller table that has not been through the fit check."
  pub check_good : reply.number ≡ 0 → Good (skid_system context specification) (ControllerWords context specification controller)
  check_good e = (check_fits (verdict_given (inl e))).0 e
