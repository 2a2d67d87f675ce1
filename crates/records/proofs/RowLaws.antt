-- What the tests of a row need: refusals 5 to 7.
-- Assumes nothing.
use Rattle.std.specs.Prelude.{Ok, Err, if◌then◌else◌}
use Rattle.std.specs.Cmp.Lexicographic.{slice_cmp}
use Rattle.std.specs.Ordering.{nat_cmp, is_eq, is_lt}
use Rattle.std.proofs.lemmas.Cmp.{same_from_slice_cmp}
use Rattle.std.proofs.lemmas.Bool.Decides.{nat_tests}
use Rattle.std.specs.declared.cmp.Ordering.{Ordering}
use Rattle.std.specs.declared.cmp.Ordering.TheVariants.{Less, Equal, Greater}
use mathlib.Core.Path.{◌≡◌, refl, sym, ap, ◌∙◌}
use mathlib.Core.Bool.{Bool, true, false}
use mathlib.Core.List.{List, [], ◌∷◌}
use Prim.Native.Nat.{ℕ, ◌+◌, ◌*◌, ◌^◌, ◌≤◌, ◌<◌}
use native.Mathlib.Omega.{arith}
use lib.Dec.{ltb, ltb→lt}
use lib.ListN.{length, get_or, take, drop, length-take}
use lib.Seq.{get_or-take, take-take}
use borrow.Author.Tests.{eq-eqb, ne_eqb, lt-ltb, le-ltb}
use Rattle.pairs.specs.Scans.{all_with, same, less}
use Rattle.pairs.proofs.Scans.{all_yes, with_step, with_done}
use Rattle.pairs.proofs.Lists.{at_mem}
use Rattle.rules.specs.declared.Fault.TheVariants.{Code, EqualKey, LowerKey}
use Rattle.rules.specs.declared.Kind.{Kind}
use Rattle.rules.specs.Layouts.{Layout, layout_of}
use Rattle.rules.specs.Faults.{Finding, fields_below, key_of, row_fault}
use Rattle.records.proofs.KindLaws.{Laid, laid}
use Rattle.records.specs.declared.layouts.Layout as code
use Rattle.records.specs.Inside.{LaidOut, Places, fields_of, key_before}

-- 5: field by field
module _ (places : List ℕ) (p : Places places) (j : ℕ) (more : j < length places) where
  pub place_below : get_or places j 0 < 6
  place_below = ltb→lt (get_or places j 0) 6 (all_yes (λ p. ltb p 6) places p.each (get_or places j 0) (at_mem places j 0 more))

  pub place_fits : get_or places j 0 * 4 < 2 ^ 64
  place_fits = omega (arith, place_below)

module _ (row counts places : List ℕ) (few : length places ≤ 6) (six : length row ≡ 6) (j : ℕ) where
  abbrev left : ℕ → Bool
  left j = fields_below counts (drop j (take (length places) row)) (drop j places)

  fields : length (take (length places) row) ≡ length places
  fields = rw length-take (omega arith)

  module _ (so_far : left j ≡ fields_below counts (take (length places) row) places) where
    pub below_end : length places ≤ j → true ≡ fields_below counts (take (length places) row) places
    below_end h = sym (with_done (λ x k. ltb x (get_or counts k 0)) (take (length places) row) places j (omega (arith, fields)) h) ∙ so_far

    module _ (more : j < length places) where
      step : left j ≡ (if ltb (get_or row j 0) (get_or counts (get_or places j 0) 0) then left (j + 1) else false)
      step =
          with_step (λ x k. ltb x (get_or counts k 0)) (take (length places) row) places 0 0 j (omega (arith, fields)) more
          ∙ rw (get_or-take (length places) row j 0 more)

      pub below_stop : get_or counts (get_or places j 0) 0 ≤ get_or row j 0 → false ≡ fields_below counts (take (length places) row) places
      below_stop h = sym (step ∙ rw (le-ltb (get_or row j 0) (get_or counts (get_or places j 0) 0) h)) ∙ so_far

      pub below_on : get_or row j 0 < get_or counts (get_or places j 0) 0 → left (j + 1) ≡ fields_below counts (take (length places) row) places
      below_on h = sym (step ∙ rw (lt-ltb (get_or row j 0) (get_or counts (get_or places j 0) 0) h)) ∙ so_far

-- by the layout of the kind
pub below_told : (kind : Kind) (s : code.Layout) → LaidOut (layout_of kind) s → (row counts : List ℕ) (r : Bool)
    → r ≡ fields_below counts (take (length s.below.now) row) s.below.now → r ≡ fields_below counts (fields_of (layout_of kind) row) (layout_of kind).below
below_told kind s known row counts r e = e ∙ rw (known.below_are, (laid kind).below_each)

-- 6 and 7: the first fields that differ decide
same_told : (xs ys : List ℕ) (o : Ordering) → o ≡ slice_cmp nat_cmp xs ys → is_eq o ≡ same xs ys
unfolding all_with
same_told = same_from_slice_cmp nat_cmp is_eq same refl (λ _ _. refl) (λ _ _. refl) (λ x y xs ys o h. grind (arith, nat_tests))

less_told : (xs ys : List ℕ) (o : Ordering) → o ≡ slice_cmp nat_cmp xs ys → is_lt o ≡ less xs ys
unfolding less
less_told = same_from_slice_cmp nat_cmp is_lt less refl (λ _ _. refl) (λ _ _. refl) (λ x y xs ys o h. grind (arith, nat_tests))

-- the key of a row in an array of six, and no key before it
module _ (l : Layout) (d : Laid l) (row : List ℕ) where
  key_front : key_of l (fields_of l row) ≡ take l.key_size row
  key_front = take-take l.key_size (length l.field_sizes) row d.key_within

no_number : (xs : List ℕ) → 1 ≤ length xs → (same xs [] ≡ false) × (less xs [] ≡ false)
unfolding all_with less
no_number [] h = absurd (omega arith)
no_number (x ∷ xs) h = (refl, refl)

-- what an order says of row k
abbrev by_order : ℕ → Ordering → Finding
by_order k Greater = Ok tt
by_order k Equal = Err (EqualKey k)
by_order k Less = Err (LowerKey k)

tests_decide : (k : ℕ) (o : Ordering) → (if is_eq o then Err (EqualKey k) else if is_lt o then Err (LowerKey k) else Ok tt) ≡ by_order k o
tests_decide k Greater = refl
tests_decide k Equal = refl
tests_decide k Less = refl

-- the three in their order
module _ (kind : Kind) (counts : List ℕ) (k : ℕ) (before row : List ℕ) where
  abbrev l : Layout
  l = layout_of kind

  abbrev decided : Finding
  decided = row_fault l counts k (key_before l k before) (fields_of l row)

  module _ (flag : Bool) (tested : flag ≡ fields_below counts (fields_of l row) l.below) where
    pub code_found : flag ≡ false → Err (Code k) ≡ decided
    unfolding row_fault
    code_found e = sym (rw (← tested, e))

    module _ (below : flag ≡ true) where
      pub first_sound : length row ≡ 6 → k ≡ 0 → Ok tt ≡ decided
      unfolding row_fault
      first_sound six e =
          let some_key : 1 ≤ length (take l.key_size row) = rw length-take (omega (arith, (laid kind).key_some)) in
          let (no_same, no_less) = no_number (take l.key_size row) some_key in
          sym (rw (← tested, below, eq-eqb k 0 e, key_front l (laid kind) row, no_same, no_less))

      module _ (later : k ≡ 0 → ⊥) (n : ℕ) (is_key : n ≡ l.key_size) (order : Ordering) (compared : order ≡ slice_cmp nat_cmp (take n row) (take n before)) where
        ordered : decided ≡ by_order k order
        unfolding row_fault
        ordered = rw (
          ← tested,
          below,
          ne_eqb k 0 later,
          key_front l (laid kind) row,
          key_front l (laid kind) before,
          ← is_key,
          ← same_told (take n row) (take n before) order compared,
          ← less_told (take n row) (take n before) order compared,
        ) (tests_decide k order)

        pub greater_sound : order ≡ Greater → Ok tt ≡ decided
        greater_sound e = sym (ordered ∙ ap (by_order k) e)

        pub equal_found : order ≡ Equal → Err (EqualKey k) ≡ decided
        equal_found e = sym (ordered ∙ ap (by_order k) e)

        pub lower_found : order ≡ Less → Err (LowerKey k) ≡ decided
        lower_found e = sym (ordered ∙ ap (by_order k) e)
