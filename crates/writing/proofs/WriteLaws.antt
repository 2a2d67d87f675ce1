-- What `written` and `write_controller` need: sizes of a table within the limits, and the outcome of each refusal and of a write.
-- Assumes nothing.
use Rattle.std.specs.Prelude.{Option, Some, None, position}
use mathlib.Core.Path.{◌≡◌, refl, sym, subst, ◌∙◌}
use mathlib.Core.Bool.{Bool, true, false, not, ◌&&◌}
use mathlib.Core.List.{List, [], ◌∷◌, ◌++◌, append_assoc}
use Prim.Native.Nat.{ℕ, ◌+◌, ◌-◌, ◌*◌, ◌^◌, ◌≤◌, ◌<◌}
use native.Mathlib.Nat.{mul-le-mul}
use native.Mathlib.Omega.{arith}
use lib.Dec.{T, leb, eqb}
use lib.ListN.{length, take, drop, length-take, length-drop}
use lib.Seq.{drop-drop, take-take, length-take-le}
use borrow.Author.Tests.{not-true, not-false, le-leb, lt-leb, lt-ltb, le-ltb}
use Rattle.rules.specs.declared.Reply.{Reply}
use Rattle.rules.specs.Limits.{state_limit}
use Rattle.rules.specs.Layouts.{controller_layout}
use Rattle.rules.specs.Faults.{in_limits}
use Rattle.rules.specs.Replies.{success, refusal, fine, unless, ◌or_else◌}
use Rattle.rules.specs.Writing.{bad_place, places, controller_bytes, place_refusal, write_refusal, write_controller, ControllerWritten}
use Rattle.pairs.specs.Lent.{leading}
use Rattle.writing.specs.Inside.{present, is_bad, Codes, Writable}
use Rattle.rules.proofs.Sound.{limit_within}
use Rattle.writing.proofs.SurveyLaws.{present_few, bad_found, bad_none}
use Rattle.writing.proofs.PutLaws.{codes_few, lent_back, lent_part, length_controller}

-- ---- counts within the limits

module _ (n_u n_v states : ℕ) where
  -- what `is_in_limits` answers of the three counts
  abbrev pub Answer : Bool → Type 0
  Answer inside = inside ≡ in_limits (take (length controller_layout.limits) (n_u ∷ n_v ∷ states ∷ 0 ∷ 0 ∷ 0 ∷ [])) controller_layout.limits

  abbrev within : Bool
  within = in_limits (n_u ∷ n_v ∷ states ∷ []) controller_layout.limits

  answered : (inside : Bool) → Answer inside → inside ≡ within
  unfolding controller_layout
  answered inside e = e

  module _ (inside : Bool) (test : not inside ≡ false) (answer : Answer inside) where
    counts_within : within ≡ true
    counts_within = sym (answered inside answer) ∙ not-false inside test

    counts_in_lem : T within
    counts_in_lem = subst T (sym counts_within) tt

    codes_within : Codes n_u n_v
    unfolding controller_layout
    codes_within =
        let (u_low, u_high) = limit_within (n_u ∷ n_v ∷ states ∷ []) controller_layout.limits counts_in_lem 0 (omega arith) in
        let (v_low, v_high) = limit_within (n_u ∷ n_v ∷ states ∷ []) controller_layout.limits counts_in_lem 1 (omega arith) in
        record { some_u = u_low; few_u = u_high; some_v = v_low; few_v = v_high }

    states_within : states ≤ 512
    unfolding controller_layout state_limit
    states_within = (limit_within (n_u ∷ n_v ∷ states ∷ []) controller_layout.limits counts_in_lem 2 (omega arith)).1

    places_few : states * (n_u * n_v) ≤ 8192
    places_few = mul-le-mul states_within (codes_few n_u n_v codes_within)

    -- no product or sum wraps
    pub steps_fit : n_u * n_v < 2 ^ 32
    steps_fit = omega (arith, codes_few n_u n_v codes_within)

    pub size_fits : states * (n_u * n_v) < 2 ^ 32
    size_fits = omega (arith, places_few)

    pub size_fits_wide : states * (n_u * n_v) < 2 ^ 64
    size_fits_wide = omega (arith, places_few)

    module _ (next : List ℕ) where
      -- what is looked at: as many places as the counts ask for
      module _ (rows : ℕ) (rows_are : rows ≡ present (places n_u n_v states next)) where
        rows_few : rows ≤ 8192
        rows_few = rw rows_are (omega (arith, present_few (places n_u n_v states next), length-take (states * (n_u * n_v)) next, places_few))

        pub row_bytes_fit : rows * 6 < 2 ^ 64
        row_bytes_fit = omega (arith, rows_few)

        pub bytes_fit : 8 + rows * 6 < 2 ^ 64
        bytes_fit = omega (arith, rows_few)

        pub is_writable : states * (n_u * n_v) ≤ length next → Writable n_u n_v states (places n_u n_v states next) rows
        is_writable enough = record { codes = codes_within; few_states = states_within; size_is = length-take-le (states * (n_u * n_v)) next enough; rows_are = rows_are }

      pub bad_fits : (found : Option ℕ) (bad : ℕ) → found ≡ position (is_bad states) (places n_u n_v states next) → found ≡ Some bad → bad < 2 ^ 32
      bad_fits found bad is e = omega (arith, (bad_found states (places n_u n_v states next) bad (sym is ∙ e)).1, length-take (states * (n_u * n_v)) next, places_few)

-- ---- the outcome

module _ (n_u n_v states : ℕ) (next : List ℕ) (found : Option ℕ) (is : found ≡ position (is_bad states) (places n_u n_v states next)) where
  bad_place_lem : (bad : ℕ) → found ≡ Some bad → place_refusal n_u n_v states next ≡ refusal 5 3 bad 0
  unfolding place_refusal
  bad_place_lem bad e =
      let (at, inside) = bad_found states (places n_u n_v states next) bad (sym is ∙ e) in
      rw (at, lt-ltb bad (length (places n_u n_v states next)) inside)

  no_bad_place : found ≡ None → place_refusal n_u n_v states next ≡ fine
  unfolding place_refusal
  no_bad_place e = rw (le-ltb (bad_place states (places n_u n_v states next)) (length (places n_u n_v states next)) (bad_none states (places n_u n_v states next) (sym is ∙ e)))

module _ (n_u n_v states : ℕ) (next out : List ℕ) (start : ℕ) where
  -- the table has its places, and the buffer room
  abbrev roomy : Bool
  roomy = leb (states * (n_u * n_v)) (length next) && leb (start + length (controller_bytes n_u n_v states next)) (length out)

  outside : within n_u n_v states ≡ false → write_refusal n_u n_v states next out start ≡ refusal 4 3 0 0
  unfolding write_refusal unless ◌or_else◌
  outside e = rw e

  no_room : within n_u n_v states ≡ true → roomy ≡ false → write_refusal n_u n_v states next out start ≡ refusal 10 0 0 0
  unfolding write_refusal unless ◌or_else◌
  no_room e r = rw (e, r)

  then_places : within n_u n_v states ≡ true → roomy ≡ true → write_refusal n_u n_v states next out start ≡ place_refusal n_u n_v states next
  unfolding write_refusal unless ◌or_else◌
  then_places e r = rw (e, r)

  -- a refused write changes nothing
  stays : (number table row : ℕ) (reply : Reply) → eqb number 0 ≡ false → write_refusal n_u n_v states next out start ≡ refusal number table row 0 → reply ≡ refusal number table row 0
      → ControllerWritten n_u n_v states next out start reply out
  unfolding write_controller
  stays number table row reply n e is_reply_lem = record { reply_is = is_reply_lem ∙ rw (e, n); buffer_is = rw (e, n) }

  -- a write that is not refused
  written : (reply : Reply) (out' : List ℕ) → write_refusal n_u n_v states next out start ≡ fine → reply ≡ success states 0
      → out' ≡ take start out ++ (controller_bytes n_u n_v states next ++ drop (start + length (controller_bytes n_u n_v states next)) out) → ControllerWritten n_u n_v states next out start reply out'
  unfolding write_controller
  written reply out' e is_reply_lem is_out = record { reply_is = is_reply_lem ∙ rw e; buffer_is = is_out ∙ rw (e, append_assoc) }

  -- what the rows say of the record's length
  size_is : (rows : ℕ) → rows ≡ present (places n_u n_v states next) → length (controller_bytes n_u n_v states next) ≡ 8 + rows * 6
  size_is rows rows_are = rw rows_are (length_controller n_u n_v states next)

  -- the record of the places that are looked at is that of the table
  same_bytes : controller_bytes n_u n_v states (places n_u n_v states next) ≡ controller_bytes n_u n_v states next
  unfolding controller_bytes
  same_bytes = rw (take-take (states * (n_u * n_v)) (states * (n_u * n_v)) next (omega arith))

  pub record_room : (rows : ℕ) → rows ≡ present (places n_u n_v states next) → 8 + rows * 6 ≤ length out - start
      → length (controller_bytes n_u n_v states (places n_u n_v states next)) ≤ length (take (length out - start) (drop start out))
  record_room rows rows_are room = rw (lent_part, length-drop, same_bytes) (omega (arith, size_is rows rows_are))

  module _ (inside : Bool) (answer : Answer n_u n_v states inside) where
    pub limits_refused : not inside ≡ true → ControllerWritten n_u n_v states next out start (refusal 4 3 0 0) out
    limits_refused test = stays 4 3 0 (refusal 4 3 0 0) refl (outside (sym (answered n_u n_v states inside answer) ∙ not-true inside test)) refl

    pub table_refused : not inside ≡ false → length next < states * (n_u * n_v) → ControllerWritten n_u n_v states next out start (refusal 10 0 0 0) out
    table_refused test short = stays 10 0 0 (refusal 10 0 0 0) refl (no_room (counts_within n_u n_v states inside test answer) (rw (lt-leb (states * (n_u * n_v)) (length next) short))) refl

    module _ (test : not inside ≡ false) (enough : states * (n_u * n_v) ≤ length next) where
      short_buffer : length out < start + length (controller_bytes n_u n_v states next) → ControllerWritten n_u n_v states next out start (refusal 10 0 0 0) out
      short_buffer short = stays 10 0 0 (refusal 10 0 0 0) refl (no_room (counts_within n_u n_v states inside test answer)
          (rw (le-leb (states * (n_u * n_v)) (length next) enough, lt-leb (start + length (controller_bytes n_u n_v states next)) (length out) short))) refl

      pub start_refused : length out < start → ControllerWritten n_u n_v states next out start (refusal 10 0 0 0) out
      start_refused past = short_buffer (omega arith)

      module _ (rows : ℕ) (rows_are : rows ≡ present (places n_u n_v states next)) (there : start ≤ length out) where
        pub room_refused : length out - start < 8 + rows * 6 → ControllerWritten n_u n_v states next out start (refusal 10 0 0 0) out
        room_refused short = short_buffer (omega (arith, size_is rows rows_are))

        module _ (room : 8 + rows * 6 ≤ length out - start) (found : Option ℕ) (is : found ≡ position (is_bad states) (places n_u n_v states next)) where
          places_decide : write_refusal n_u n_v states next out start ≡ place_refusal n_u n_v states next
          places_decide = then_places (counts_within n_u n_v states inside test answer) (rw (
            le-leb (states * (n_u * n_v)) (length next) enough,
            le-leb (start + length (controller_bytes n_u n_v states next)) (length out) (omega (arith, size_is rows rows_are)),
          ))

          pub place_refused : (bad : ℕ) → found ≡ Some bad → ControllerWritten n_u n_v states next out start (refusal 5 3 bad 0) out
          place_refused bad e = stays 5 3 bad (refusal 5 3 bad 0) refl (places_decide ∙ bad_place_lem n_u n_v states next found is bad e) refl

          pub record_written : found ≡ None → (back : List ℕ) → back ≡ leading (controller_bytes n_u n_v states (places n_u n_v states next)) (take (length out - start) (drop start out))
              → ControllerWritten n_u n_v states next out start (success states 0) (take start out ++ (back ++ drop (length out - start) (drop start out)))
          record_written e back is_back = written (success states 0) _ (places_decide ∙ no_bad_place n_u n_v states next found is e) refl
              (lent_back out start back (controller_bytes n_u n_v states next) (is_back ∙ rw same_bytes) ∙ rw drop-drop)
