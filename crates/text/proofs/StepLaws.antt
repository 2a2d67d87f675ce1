-- The lines of a table put one after another: the line of one place, or none, and it stands behind the lines of the places before it.
-- Assumes nothing.
use mathlib.Core.Path.{◌≡◌}
use mathlib.Core.List.{List, [], ◌∷◌}
use Prim.Native.Nat.{ℕ, ◌+◌, ◌*◌, ◌/◌, ◌%◌, ◌^◌, ◌≤◌, ◌<◌}
use native.Mathlib.Nat.{mul-le-mul, mul-pos, mod-lt, div-le_self}
use native.Mathlib.Omega.{arith}
use lib.ListN.{length, get_or, take}
use Rattle.rules.proofs.EachRow.{no_places, absent_place, present_place, rows_more, one_more_few}
use Rattle.text.specs.Lines.{line}
use Rattle.text.specs.Inside.{step_lines, Codes}
use Rattle.text.specs.declared.growing.Text.{Text}
use Rattle.text.specs.Growing.{Room, Grown}
use Rattle.text.proofs.GrowingLaws.{grown_none, grown_then}

-- ---- codes: their product fits, and is not 0; a place before is a place

module _ (n_u n_v p : ℕ) (codes : Codes n_u n_v p) where
  pub codes_fit : n_u * n_v < 2 ^ 64
  codes_fit = omega (arith, mul-le-mul codes.few_u codes.few_v)

  pub codes_some : 0 < n_u * n_v
  codes_some = mul-pos codes.some_u codes.some_v

  pub state_fits : p / (n_u * n_v) < 2 ^ 32
  state_fits = omega (arith, codes.few_places, div-le_self p (n_u * n_v))

  pub signal_fits : p / n_v % n_u < 2 ^ 32
  signal_fits = omega (arith, codes.few_u, mod-lt (p / n_v) codes.some_u)

  pub reply_fits : p % n_v < 2 ^ 32
  reply_fits = omega (arith, codes.few_v, mod-lt p codes.some_v)

  pub codes_before : (q : ℕ) → q < p → Codes n_u n_v q
  codes_before q h = record {
    some_u = codes.some_u;
    few_u = codes.few_u;
    some_v = codes.some_v;
    few_v = codes.few_v;
    few_places = omega (arith, codes.few_places);
  }

-- ---- one place

module _ (n_u n_v p to : ℕ) where
  pub absent_grown : (text : Text) → to ≡ 65535 → Grown (step_lines n_u n_v p (to ∷ [])) text text
  unfolding step_lines
  absent_grown text e = rw (absent_place line n_u n_v p to e) (grown_none text)

  pub line_room : (text : Text) → (to ≡ 65535 → ⊥) → Room (length (step_lines n_u n_v p (to ∷ []))) text
      → Room (length (line (p / (n_u * n_v) ∷ p / n_v % n_u ∷ p % n_v ∷ to ∷ []))) text
  unfolding step_lines
  line_room text n room = rw (present_place line n_u n_v p to n) at room

  pub line_grown : (was now : Text) → (to ≡ 65535 → ⊥) → Grown (line (p / (n_u * n_v) ∷ p / n_v % n_u ∷ p % n_v ∷ to ∷ [])) was now
      → Grown (step_lines n_u n_v p (to ∷ [])) was now
  unfolding step_lines
  line_grown was now n put = rw (present_place line n_u n_v p to n) put

-- ---- the loop over the places

pub none_grown : (n_u n_v : ℕ) (text : Text) → Grown (step_lines n_u n_v 0 []) text text
unfolding step_lines
none_grown n_u n_v text = rw (no_places line n_u n_v 0) (grown_none text)

module _ (n_u n_v size p : ℕ) (next : List ℕ) (was now : Text) where
  pub turn_room : Room (length (step_lines n_u n_v 0 (take size next))) was → p < size → size ≤ length next → Grown (step_lines n_u n_v 0 (take p next)) was now
      → Room (length (step_lines n_u n_v p (get_or next p 0 ∷ []))) now
  unfolding step_lines
  turn_room room more enough before =
      let few = one_more_few line n_u n_v size p next more enough in
      omega (arith, before.appends.end_is, before.long)

  pub turn_grown : (then : Text) → p < size → size ≤ length next → Grown (step_lines n_u n_v 0 (take p next)) was now
      → Grown (step_lines n_u n_v p (get_or next p 0 ∷ [])) now then → Grown (step_lines n_u n_v 0 (take (p + 1) next)) was then
  unfolding step_lines
  turn_grown then more enough before here = rw (rows_more line n_u n_v p next (omega arith)) (grown_then before here)

  pub all_grown : p ≤ size → size ≤ p → Grown (step_lines n_u n_v 0 (take p next)) was now → Grown (step_lines n_u n_v 0 (take size next)) was now
  all_grown h k before = let e : size ≡ p = omega arith in rw e before
