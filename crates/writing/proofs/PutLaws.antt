-- What putting bytes into a buffer needs: a part of it that is lent, the rows' bytes with one place more, and a whole record.
-- Assumes nothing.
use Rattle.std.specs.Prelude.{if◌then◌else◌}
use Rattle.std.specs.Int.{w16, to_le_bytes}
use mathlib.Core.Path.{◌≡◌, refl, sym, ap, ◌∙◌}
use mathlib.Core.Bool.{Bool, true, false}
use mathlib.Core.List.{List, [], ◌∷◌, ◌++◌, flat_map, append_assoc, append-nil}
use Prim.Native.Nat.{ℕ, suc, ◌+◌, ◌-◌, ◌*◌, ◌/◌, ◌%◌, ◌^◌, ◌≤◌, ◌<◌}
use native.Mathlib.Nat.{add-zero, mul_comm, mul-le-mul, mul-pos, div-div-eq-div-mul}
use native.Mathlib.Omega.{arith}
use lib.Dec.{eqb}
use lib.ListN.{length, get_or, take, drop, length-append, length-drop, drop_of_length-le, take-append-drop}
use lib.Seq.{take_at, drop_at, take_all, take-length, drop-drop}
use borrow.Author.Tests.{eqb-true, eqb-false}
use Rattle.rules.specs.Limits.{absent}
use Rattle.rules.specs.Layouts.{controller_layout}
use Rattle.rules.specs.Bytes.{bytes_of, written}
use Rattle.rules.specs.Records.{record_of}
use Rattle.rules.specs.NextTables.{listing}
use Rattle.rules.specs.Writing.{places, controller_bytes}
use Rattle.pairs.specs.Lent.{leading, spliced_at}
use Rattle.rules.proofs.EachRow.{no_places, no_row, a_row, absent_place, present_place, rows_more, one_more_few}
use Rattle.writing.proofs.SurveyLaws.{present_few}
use Rattle.writing.specs.Inside.{present, row_bytes, rows_bytes, head_bytes, Codes, Writable}

-- ---- the codes of a row: their product fits, and is not 0

module _ (n_u n_v : ℕ) (codes : Codes n_u n_v) where
  pub codes_few : n_u * n_v ≤ 16
  codes_few = mul-le-mul codes.few_u codes.few_v

  pub codes_fit : n_u * n_v < 2 ^ 64
  codes_fit = omega (arith, codes_few)

  pub codes_some : 0 < n_u * n_v
  codes_some = mul-pos codes.some_u codes.some_v

-- ---- a part that is lent, from a place on

pub lent_part : (o : List ℕ) (at : ℕ) → take (length o - at) (drop at o) ≡ drop at o
lent_part o at = take_all (length o - at) (drop at o) (omega (arith, length-drop at o))

lent_rest : (o : List ℕ) (at : ℕ) → drop (length o - at) (drop at o) ≡ []
lent_rest o at = drop_of_length-le (drop at o) {i = length o - at} (omega (arith, length-drop at o))

-- it came back with the part at its front
pub lent_back : (o : List ℕ) (at : ℕ) (back part : List ℕ) → back ≡ leading part (take (length o - at) (drop at o))
    → take at o ++ (back ++ drop (length o - at) (drop at o)) ≡ spliced_at at part o
lent_back o at back part e = rw (e, lent_part, lent_rest, append-nil)

-- ---- the rows' bytes

length_row : (n_u n_v p t : ℕ) → length (row_bytes n_u n_v p t) ≡ 6
unfolding controller_layout written bytes_of
length_row n_u n_v p t = refl

-- how a row is written; `rows_bytes` is what it gives for each row
abbrev put : List ℕ → List ℕ
put = written controller_layout.field_sizes

-- six bytes for each place that has a row
length_rows : (n_u n_v p : ℕ) (ts : List ℕ) → length (rows_bytes n_u n_v p ts) ≡ present ts * 6
unfolding rows_bytes present
length_rows n_u n_v p [] = rw (no_places put n_u n_v p)
length_rows n_u n_v p (t ∷ ts) = go (eqb t absent) refl (length_rows n_u n_v (suc p) ts)
  where
    go : (b : Bool) → eqb t absent ≡ b → length (rows_bytes n_u n_v (suc p) ts) ≡ present ts * 6 → length (rows_bytes n_u n_v p (t ∷ ts)) ≡ (if b then present ts else 1 + present ts) * 6
    go true e h = rw (no_row put n_u n_v p t ts (eqb-true t absent e)) h
    go false e h = rw (a_row put n_u n_v p t ts (eqb-false t absent e), length-append, length_row) (omega arith)

-- ---- one place

module _ (n_u n_v p to at : ℕ) where
  pub absent_at : to ≡ 65535 → at ≡ at + length (rows_bytes n_u n_v p (to ∷ []))
  unfolding rows_bytes
  absent_at e = rw (absent_place put n_u n_v p to e, add-zero)

  pub absent_out : (out : List ℕ) → to ≡ 65535 → out ≡ spliced_at at (rows_bytes n_u n_v p (to ∷ [])) out
  unfolding rows_bytes
  absent_out out e = rw (absent_place put n_u n_v p to e, take-append-drop)

  pub row_room : (out : List ℕ) → (to ≡ 65535 → ⊥) → at + length (rows_bytes n_u n_v p (to ∷ [])) ≤ length out → 6 ≤ length (take (length out - at) (drop at out))
  unfolding rows_bytes
  row_room out n h = rw (lent_part, length-drop) (omega (arith, ap length (present_place put n_u n_v p to n), length_row n_u n_v p to))

  pub row_at : (to ≡ 65535 → ⊥) → at + 6 ≡ at + length (rows_bytes n_u n_v p (to ∷ []))
  unfolding rows_bytes
  row_at n = rw (present_place put n_u n_v p to n, length_row)

  pub row_out : (out back : List ℕ) → (to ≡ 65535 → ⊥) → back ≡ leading (row_bytes n_u n_v p to) (take (length out - at) (drop at out))
      → take at out ++ (back ++ drop (length out - at) (drop at out)) ≡ spliced_at at (rows_bytes n_u n_v p (to ∷ [])) out
  unfolding rows_bytes
  row_out out back n e = rw (present_place put n_u n_v p to n) (lent_back out at back (row_bytes n_u n_v p to) e)

-- ---- the loop over the places

-- a part after another
leading_more : (front part o : List ℕ) (at : ℕ) → at ≡ length front → spliced_at at part (leading front o) ≡ leading (front ++ part) o
leading_more front part o at e =
    rw (take_at front (drop (length front) o) at (sym e), drop_at front (drop (length front) o) at (sym e), drop-drop, length-append, append_assoc)

length_leading : (part o : List ℕ) → length part ≤ length o → length (leading part o) ≡ length o
length_leading part o h = simp (length-append, length-drop) (omega arith)

pub none_long : (n_u n_v : ℕ) → 0 ≡ length (rows_bytes n_u n_v 0 [])
unfolding rows_bytes
none_long n_u n_v = rw (no_places put n_u n_v 0)

pub leading_none : (n_u n_v : ℕ) (out : List ℕ) → out ≡ leading (rows_bytes n_u n_v 0 []) out
unfolding rows_bytes
leading_none n_u n_v out = rw (no_places put n_u n_v 0)

module _ (n_u n_v p at : ℕ) (places o out : List ℕ) (is_at : at ≡ length (rows_bytes n_u n_v 0 (take p places))) (is_out : out ≡ leading (rows_bytes n_u n_v 0 (take p places)) o) where
  pub turn_room : p < length places → length (rows_bytes n_u n_v 0 places) ≤ length o → at + length (rows_bytes n_u n_v p (get_or places p 0 ∷ [])) ≤ length out
  unfolding rows_bytes
  turn_room more room =
      let few = rw take-length at (one_more_few put n_u n_v (length places) p places more (omega arith)) in
      rw (is_out, length_leading (rows_bytes n_u n_v 0 (take p places)) o (omega arith)) (omega arith)

  pub turn_at : (at' : ℕ) → p < length places → at' ≡ at + length (rows_bytes n_u n_v p (get_or places p 0 ∷ [])) → at' ≡ length (rows_bytes n_u n_v 0 (take (p + 1) places))
  unfolding rows_bytes
  turn_at at' more is_next = rw (rows_more put n_u n_v p places more, length-append, ← is_at) is_next

  pub turn_out : (out' : List ℕ) → p < length places → out' ≡ spliced_at at (rows_bytes n_u n_v p (get_or places p 0 ∷ [])) out → out' ≡ leading (rows_bytes n_u n_v 0 (take (p + 1) places)) o
  unfolding rows_bytes
  turn_out out' more is_next =
      is_next ∙ rw (is_out, rows_more put n_u n_v p places more) (leading_more (rows_bytes n_u n_v 0 (take p places)) (rows_bytes n_u n_v p (get_or places p 0 ∷ [])) o at is_at)

  module _ (end : length places ≤ p) where
    all_taken : take p places ≡ places
    all_taken = take_all p places end

    pub end_out : out ≡ leading (rows_bytes n_u n_v 0 places) o
    end_out = rw (← all_taken) is_out

    pub end_size : length (rows_bytes n_u n_v 0 places) ≤ length o → length out ≡ length o
    end_size room = rw end_out (length_leading (rows_bytes n_u n_v 0 places) o room)

-- ---- a whole record

record_bytes : (n_u n_v states : ℕ) (rows : List (List ℕ)) (n : ℕ) → length (flat_map (written controller_layout.field_sizes) rows) ≡ n * 6
    → record_of controller_layout (n_u ∷ n_v ∷ states ∷ []) rows ≡ head_bytes n_u n_v states n ++ flat_map (written controller_layout.field_sizes) rows
unfolding record_of controller_layout written bytes_of
record_bytes n_u n_v states rows n h =
    let body : List ℕ = controller_layout.kind ++ (written controller_layout.count_sizes (n_u ∷ n_v ∷ states ∷ []) ++ flat_map (written controller_layout.field_sizes) rows) in
    let e : length body ≡ 6 + n * 6 = omega arith in
    ap (λ k. bytes_of 2 k ++ body) e

module _ (n_u n_v states : ℕ) (next : List ℕ) where
  controller_bytes_lem : controller_bytes n_u n_v states next ≡ head_bytes n_u n_v states (present (places n_u n_v states next)) ++ rows_bytes n_u n_v 0 (places n_u n_v states next)
  unfolding controller_bytes rows_bytes
  controller_bytes_lem = record_bytes n_u n_v states (listing n_u n_v 0 (places n_u n_v states next)) (present (places n_u n_v states next)) (length_rows n_u n_v 0 (places n_u n_v states next))

  length_head : (n : ℕ) → length (head_bytes n_u n_v states n) ≡ 8
  unfolding controller_layout written bytes_of
  length_head n = refl

  pub length_controller : length (controller_bytes n_u n_v states next) ≡ 8 + present (places n_u n_v states next) * 6
  length_controller = rw (controller_bytes_lem, length-append, length_head, length_rows)

  pub head_room : (out : List ℕ) → length (controller_bytes n_u n_v states next) ≤ length out → 8 ≤ length out
  head_room out h = omega (arith, length_controller)

  -- the head is written, and the buffer as long as before
  pub head_left : (o out : List ℕ) → length (controller_bytes n_u n_v states next) ≤ length o → length out ≡ length o → 8 ≤ length out
  head_left o out h e = omega (arith, length_controller)

-- of a controller that is not refused
module _ (n_u n_v states : ℕ) (all : List ℕ) (rows : ℕ) (w : Writable n_u n_v states all rows) where
  pub places_few : length all ≤ 8192
  places_few = rw w.size_is (mul-le-mul w.few_states (codes_few n_u n_v w.codes))

  pub rows_at_most : rows ≤ 8192
  rows_at_most = rw w.rows_are (omega (arith, present_few all, places_few))

  pub rows_fit : rows * 6 < 2 ^ 64
  rows_fit = omega (arith, rows_at_most)

  pub after_fits : 6 + rows * 6 < 2 ^ 64
  after_fits = omega (arith, rows_at_most)

  pub after_small : 6 + rows * 6 < 2 ^ 16
  after_small = omega (arith, rows_at_most)

  -- its places are all that there are
  same_places : places n_u n_v states all ≡ all
  same_places = take_all (states * (n_u * n_v)) all (omega (arith, w.size_is))

  -- the bytes of the head, and of the row of place p
  pub head_put : (o after count put : List ℕ) → after ≡ to_le_bytes w16 (6 + rows * 6) → count ≡ to_le_bytes w16 states
      → put ≡ get_or after 0 0 ∷ get_or after 1 0 ∷ 67 ∷ 84 ∷ n_u ∷ n_v ∷ get_or count 0 0 ∷ get_or count 1 0 ∷ [] → put ++ drop 8 o ≡ leading (head_bytes n_u n_v states rows) o
  unfolding bytes_of written controller_layout
  head_put o after count put is_after is_count e =
      let few_u : n_u % 256 ≡ n_u = omega (arith, w.codes.few_u) in
      let few_v : n_v % 256 ≡ n_v = omega (arith, w.codes.few_v) in
      rw (e, is_after, is_count, few_u, few_v)

  pub row_put : (p : ℕ) (o state to put : List ℕ) → state ≡ to_le_bytes w16 (p / n_v / n_u) → to ≡ to_le_bytes w16 (get_or all p 0)
      → put ≡ get_or state 0 0 ∷ get_or state 1 0 ∷ p / n_v % n_u ∷ p % n_v ∷ get_or to 0 0 ∷ get_or to 1 0 ∷ [] → put ++ drop 6 o ≡ leading (row_bytes n_u n_v p (get_or all p 0)) o
  unfolding bytes_of written controller_layout
  row_put p o state to put is_state is_to e =
      let few_u : p / n_v % n_u % 256 ≡ p / n_v % n_u = omega (arith, w.codes.some_u, w.codes.few_u) in
      let few_v : p % n_v % 256 ≡ p % n_v = omega (arith, w.codes.some_v, w.codes.few_v) in
      let steps : p / n_v / n_u ≡ p / (n_u * n_v) = div-div-eq-div-mul p n_v n_u ∙ ap (λ n. p / n) (mul_comm n_v n_u) in
      rw (e, is_state, is_to, few_u, few_v, steps)

  pub rows_room : (o out : List ℕ) → length (controller_bytes n_u n_v states all) ≤ length o → length out ≡ length o → length (rows_bytes n_u n_v 0 all) ≤ length (take (length out - 8) (drop 8 out))
  rows_room o out h e = rw (lent_part, length-drop, length_rows) (omega (arith, rw same_places at (length_controller n_u n_v states all)))

  pub record_out : (o out back : List ℕ) → out ≡ leading (head_bytes n_u n_v states rows) o → back ≡ leading (rows_bytes n_u n_v 0 all) (take (length out - 8) (drop 8 out))
      → take 8 out ++ (back ++ drop (length out - 8) (drop 8 out)) ≡ leading (controller_bytes n_u n_v states all) o
  record_out o out back is_out is_back =
      let bytes : controller_bytes n_u n_v states all ≡ head_bytes n_u n_v states rows ++ rows_bytes n_u n_v 0 all = rw w.rows_are (rw same_places at (controller_bytes_lem n_u n_v states all)) in
      lent_back out 8 back (rows_bytes n_u n_v 0 all) is_back
      ∙ rw (is_out, bytes) (leading_more (head_bytes n_u n_v states rows) (rows_bytes n_u n_v 0 all) o 8 (sym (length_head n_u n_v states all rows)))
