-- Solving and the check together: a good table that solving leaves in the lent buffer, written anywhere and checked, fits; a controller record that
-- fits lies inside the unblocked answer.
-- Assumes nothing.
use mathlib.Core.Path.{◌≡◌, refl, sym, ap, subst, ◌∙◌}
use mathlib.Core.Logic.{◌⊎◌, ⊎_elim}
use mathlib.Core.Bool.{true, false}
use mathlib.Core.List.{List, [], ◌∷◌}
use Prim.Native.Nat.{ℕ, ◌+◌, ◌*◌, ◌≤◌}
use native.Mathlib.Omega.{arith}
use lib.ListN.{length, get_or, take, drop, length-append}
use borrow.Author.Tests.{le-leb, eq-eqb}
use Rattle.words.specs.Words.{◌⊆◌}
use Rattle.words.specs.System.{Good}
use Rattle.words.proofs.Answer.{good_same}
use Rattle.pairs.specs.Scans.{all_with}
use Rattle.pairs.specs.Lent.{filled}
use Rattle.rules.specs.declared.Reply.{Reply}
use Rattle.std.specs.Prelude.{Ok}
use Rattle.rules.specs.Limits.{state_limit, set_numbers, next_numbers}
use Rattle.rules.specs.Layouts.{context_layout, specification_layout, controller_layout}
use Rattle.rules.specs.Counts.{context_counts}
use Rattle.rules.specs.Faults.{in_limits, fault}
use Rattle.rules.specs.Replies.{success, refuses}
use Rattle.rules.specs.Tables.{Skid, skid_of}
use Rattle.rules.specs.Matching.{outside_agree, letters_agree, product_fits}
use Rattle.rules.specs.Writing.{bad_place, places, controller_bytes, write_refusal, ControllerWritten}
use Rattle.rules.specs.Continues.{every_input}
use Rattle.rules.specs.Meaning.{TableWords}
use Rattle.rules.proofs.Sound.{count_within}
use Rattle.rules.proofs.Writes.{no_bad, writes}
use Rattle.rules.proofs.Written.{write_sound, write_counts, write_table, write_not_refused, written_there}
use Rattle.verdicts.specs.Verdict.{verdict_reply}
use Rattle.verdicts.specs.Check.{Checked}
use Rattle.verdicts.specs.Checkable.{Checkable, skid_system, ControllerWords}
use Rattle.verdicts.proofs.Checked.{check_fits, check_success, check_good}
use Rattle.answers.specs.Solve.{table_found, answer_reply}
use Rattle.promises.specs.Solvable.{WordsOf}
use Rattle.promises.specs.Buffers.{HoldTable}
use Rattle.promises.specs.Solving.{IsUnblockedAnswer, IsNone}
use Rattle.promises.proofs.Filled.{filled_words, filled_places}

-- U and V from 1 to 4 and states from 1 to 512 are within the limits of a controller record
within_limits : (u v states : ℕ) → 1 ≤ u → u ≤ 4 → 1 ≤ v → v ≤ 4 → 1 ≤ states → states ≤ state_limit
    → in_limits (u ∷ v ∷ states ∷ []) controller_layout.limits ≡ true
unfolding all_with controller_layout
within_limits u v states u_low u_high v_low v_high low high =
    rw (le-leb 1 u u_low, le-leb u 4 u_high, le-leb 1 v v_low, le-leb v 4 v_high, le-leb 1 states low, le-leb states state_limit high)

-- a table of so many states at the front of lent numbers
module _ (context specification sets next : List ℕ) (states : ℕ) (sets' next' : List ℕ)
    (context_sound : fault context_layout context ≡ Ok tt) (specification_sound : fault specification_layout specification ≡ Ok tt)
    (outside : outside_agree context specification ≡ true) (product : product_fits context specification ≡ true)
    (hold : HoldTable context specification states sets next sets' next') (few : states ≤ state_limit)
    (good : Good (skid_system context specification) (WordsOf context specification next')) where
  abbrev k : Skid
  k = skid_of context specification

  abbrev n_u : ℕ
  n_u = (context_counts context).u

  abbrev n_v : ℕ
  n_v = (context_counts context).v

  abbrev bytes : List ℕ
  bytes = controller_bytes n_u n_v states next'

  counts_within : in_limits (n_u ∷ n_v ∷ states ∷ []) controller_layout.limits ≡ true
  unfolding context_layout
  counts_within =
      let (u_low, u_high) = count_within context_layout context context_sound 2 (omega arith) in
      let (v_low, v_high) = count_within context_layout context context_sound 3 (omega arith) in
      within_limits n_u n_v states u_low u_high v_low v_high hold.steps.occupied few

  -- the places that are written are the table
  places_table : places n_u n_v states next' ≡ hold.table
  unfolding skid_of
  places_table = ap (places n_u n_v states) hold.next_is ∙ filled_places k every_input states hold.table hold.steps hold.each_step next_numbers next

  places_there : states * (n_u * n_v) ≤ length next'
  unfolding filled
  places_there = let e = hold.each_step in rw (hold.next_is, length-append, length-append) (omega arith)

  no_bad_place : length (places n_u n_v states next') ≤ bad_place states (places n_u n_v states next')
  no_bad_place = subst (λ t. length t ≤ bad_place states t) (sym places_table) (no_bad states hold.table hold.steps)

  -- the numbers at the end run the words of the table
  good_table : Good (skid_system context specification) (TableWords k every_input hold.table)
  unfolding skid_of
  good_table =
      let same = filled_words k every_input states hold.table hold.steps hold.each_step next_numbers next in
      good_same (skid_system context specification) (WordsOf context specification next') (TableWords k every_input hold.table)
      (λ w y. (same w).0 (subst (λ n. TableWords k every_input n w) hold.next_is y)) (λ w y. subst (λ n. TableWords k every_input n w) (sym hold.next_is) ((same w).1 y)) good

  -- a write of it, where there is room
  module _ (buffer : List ℕ) (start : ℕ) (written : Reply) (buffer' : List ℕ) (done : ControllerWritten n_u n_v states next' buffer start written buffer')
      (room : start + length bytes ≤ length buffer) where
    written_success : written ≡ success states 0
    written_success = done.reply_is ∙ ap (λ o. o.reply) (writes n_u n_v states next' buffer start counts_within places_there room no_bad_place)

    fine_write : refuses (write_refusal n_u n_v states next' buffer start) ≡ false
    fine_write = write_not_refused n_u n_v states next' buffer start written buffer' done (ap (λ r. r.number) written_success)

    letters_agree_lem : letters_agree context bytes ≡ true
    unfolding letters_agree
    letters_agree_lem = rw (write_counts n_u n_v states next' buffer start fine_write, eq-eqb n_u n_u refl, eq-eqb n_v n_v refl)

    -- the record written runs the words of the table
    good_written : Good (skid_system context specification) (ControllerWords context specification bytes)
    good_written = subst (λ t. Good (skid_system context specification) (TableWords k every_input t)) (sym (write_table n_u n_v states next' buffer start fine_write ∙ places_table)) good_table

    checkable : (lent : List ℕ) → set_numbers ≤ length lent → Checkable context specification bytes lent
    checkable lent wide = record {
      context_sound = context_sound;
      specification_sound = specification_sound;
      controller_sound = write_sound n_u n_v states next' buffer start fine_write;
      outside_agrees = outside;
      letters_agree_lem = letters_agree_lem;
      product_fits_lem = product;
      room = wide;
    }

    fits : (lent : List ℕ) (verdict : Reply) (lent' : List ℕ) → set_numbers ≤ length lent → Checked context specification bytes lent verdict lent'
        → verdict ≡ verdict_reply states (Ok tt)
    fits lent verdict lent' wide checked =
        let can = checkable lent wide in
        check_success checked can ((check_fits checked can).1 good_written)
        ∙ ap (λ counts. success (get_or counts 2 0) 0) (write_counts n_u n_v states next' buffer start fine_write)

  -- what is left as a good table, written anywhere and checked, fits
  pub written_fits : (buffer : List ℕ) (start : ℕ) (written : Reply) (buffer' : List ℕ)
      → ControllerWritten (context_counts context).u (context_counts context).v states next' buffer start written buffer'
      → let size : ℕ = length (controller_bytes (context_counts context).u (context_counts context).v states next') in start + size ≤ length buffer
      → (written ≡ success states 0)
      × ((lent : List ℕ) (verdict : Reply) (lent' : List ℕ) → set_numbers ≤ length lent → Checked context specification (take size (drop start buffer')) lent verdict lent'
      → verdict ≡ verdict_reply states (Ok tt))
  written_fits buffer start written buffer' done room = (
    written_success buffer start written buffer' done room,
    λ lent verdict lent' wide checked.
        let there = written_there n_u n_v states next' buffer start written buffer' done (fine_write buffer start written buffer' done room) in
        fits buffer start written buffer' done room lent verdict lent' wide (subst (λ b. Checked context specification b lent verdict lent') there checked),
  )

-- a controller record that fits lies inside the unblocked answer; so where that is "none", none fits
pub inside : (context specification sets next : List ℕ) (reply : Reply) (sets' next' : List ℕ)
    → IsUnblockedAnswer context specification sets next reply sets' next' ⊎ IsNone context specification sets next reply sets' next'
    → (controller lent : List ℕ) (verdict : Reply) (lent' : List ℕ) → Checked context specification controller lent verdict lent' → verdict.number ≡ 0
    → (reply ≡ answer_reply (table_found reply.states reply.rounds)) × (ControllerWords context specification controller ⊆ WordsOf context specification next')
inside context specification sets next reply sets' next' answer controller lent verdict lent' checked e = ⊎_elim
    (λ a. (a.reply_is, a.largest (ControllerWords context specification controller) (check_good checked e)))
    (λ n. absurd (n.no_good (ControllerWords context specification controller) (check_good checked e)))
    answer
