-- The rows that a next table lists are the rows that it was made of, where their keys rise and their fields are below their counts.
-- Assumes nothing.
use mathlib.Core.Path.{◌≡◌, refl, sym, ap, ap₂}
use mathlib.Core.Logic.{◌⊎◌, inl, inr, ⊎_elim}
use mathlib.Core.Bool.{true, false, false≢true}
use mathlib.Core.List.Memᴰ
use mathlib.Core.List.{List, [], ◌∷◌, Memᴰ}
use Prim.Native.Nat.{ℕ, zero, suc, ◌+◌, ◌-◌, ◌*◌, ◌/◌, ◌%◌, ◌≤◌, ◌<◌}
use native.Mathlib.Nat.{sub-zero, eq-or-lt_of_le, add-mul, mul_assoc, add_assoc}
use native.Mathlib.Omega.{arith}
use lib.Dec.{eqb}
use lib.ListN.{length, get_or, take, set, replicate}
use borrow.Author.Tests.{ne_eqb}
use Rattle.pairs.specs.Scans.{less}
use Rattle.pairs.proofs.Lists.{part_below}
use Rattle.pairs.proofs.Sets.{pair_context, pair_specification}
use Rattle.rules.specs.Limits.{absent}
use Rattle.rules.specs.NextTables.{step_place, table_of, listing}
use Rattle.rules.proofs.Keys.{less_front, KeysRise}
use Rattle.rules.proofs.NextTables.{entered, row_place}
use Rattle.rules.proofs.TableRows.{place_below, StepRows}
use Rattle.rules.proofs.Read.{four}

-- the order of keys is the order of places
part_before : (w a b s t : ℕ) → s < w → (a < b) ⊎ ((a ≡ b) × (s < t)) → a * w + s < b * w + t
part_before w a b s t h (inl l) = let r : a * w + s < b * w = part_below w b a s l h in omega arith
part_before w a b s t h (inr l) = let r : s < t = l.1 in rw l.0 (omega arith)

key_place : (m n s x y s' x' y' : ℕ) → x < m → y < n → less (s ∷ x ∷ y ∷ []) (s' ∷ x' ∷ y' ∷ []) ≡ true → step_place m n s x y < step_place m n s' x' y'
unfolding less
key_place m n s x y s' x' y' hx hy h = part_before (m * n) s s' (x * n + y) (x' * n + y') (part_below n m x y hx hy)
    (⊎_elim inl (λ h. inr (h.0, part_before n x x' y y' hy (⊎_elim inl (λ h. inr (h.0, last (less_front y y' [] [] h.1))) (less_front x x' (y ∷ []) (y' ∷ []) h.1))))
    (less_front s s' (x ∷ y ∷ []) (x' ∷ y' ∷ []) h))
  where
    last : (y < y') ⊎ ((y ≡ y') × (less [] [] ≡ true)) → y < y'
    last (inl h) = h
    last (inr h) = absurd (false≢true h.1)

-- rows entered behind a first place, which stays
behind : (at : List ℕ → ℕ) (p x : ℕ) (acc : List ℕ) (rows : List (List ℕ)) → ((r : List ℕ) → Memᴰ r rows → p < at r)
    → entered (λ r. at r - p) (x ∷ acc) rows ≡ x ∷ entered (λ r. at r - suc p) acc rows
behind at p x acc [] after = refl
behind at p x acc (r ∷ rows) after =
    let h : p < at r = after r (Memᴰ.head refl) in
    let e : at r - p ≡ suc (at r - suc p) = omega arith in
    rw e (behind at p x (set acc (at r - suc p) (get_or r 3 0)) rows (λ r m. after r (Memᴰ.tail m)))

module _ (m n : ℕ) where
  -- a row that can be listed: four fields, x and y below their counts, and next is not 65535
  record Listable (r : List ℕ) : Type 0 where
    fields : length r ≡ 4
    x_low : get_or r 1 0 < m
    y_low : get_or r 2 0 < n
    present : eqb (get_or r 3 0) absent ≡ false

  -- what is listed at the place of a row
  own_row : (r : List ℕ) → Listable r → row_place m n r / (m * n) ∷ row_place m n r / n % m ∷ row_place m n r % n ∷ get_or r 3 0 ∷ [] ≡ r
  own_row r h =
      let s = get_or r 0 0 in
      let x = get_or r 1 0 in
      let y = get_or r 2 0 in
      let e : step_place m n s x y ≡ (s * m + x) * n + y = rw (add-mul, mul_assoc, add_assoc) in
      let e₁ : step_place m n s x y / (m * n) ≡ s = pair_context (m * n) s (x * n + y) (part_below n m x y h.x_low h.y_low) in
      let e₂ : step_place m n s x y / n % m ≡ x = rw (e, pair_context n (s * m + x) y h.y_low) (pair_specification m s x h.x_low) in
      let e₃ : step_place m n s x y % n ≡ y = rw e (pair_specification n (s * m + x) y h.y_low) in
      rw (e₁, e₂, e₃) (sym (four r h.fields))

  key_is : (r : List ℕ) → Listable r → take 3 r ≡ get_or r 0 0 ∷ get_or r 1 0 ∷ get_or r 2 0 ∷ []
  key_is r h = ap (take 3) (four r h.fields)

  later : (r r' : List ℕ) → Listable r → Listable r' → less (take 3 r) (take 3 r') ≡ true → row_place m n r < row_place m n r'
  later r r' h h' e = key_place m n (get_or r 0 0) (get_or r 1 0) (get_or r 2 0) (get_or r' 0 0) (get_or r' 1 0) (get_or r' 2 0) h.x_low h.y_low
      (rw (key_is r h, key_is r' h') at e)

  -- k places from p on: a row at p, or none
  listed : (k p : ℕ) (rows : List (List ℕ)) → KeysRise 3 rows → ((r : List ℕ) → Memᴰ r rows → Listable r)
      → ((r : List ℕ) → Memᴰ r rows → p ≤ row_place m n r) → ((r : List ℕ) → Memᴰ r rows → row_place m n r < p + k)
      → listing m n p (entered (λ r. row_place m n r - p) (replicate k absent) rows) ≡ rows
  unfolding listing
  listed zero p [] rise each from below = refl
  listed zero p (r ∷ rows) rise each from below = let h = from r (Memᴰ.head refl) in let h' = below r (Memᴰ.head refl) in absurd (omega arith)
  listed (suc k) p [] rise each from below = listed k (suc p) [] tt each (λ r m. absurd (Memᴰ.not-nil m)) (λ r m. absurd (Memᴰ.not-nil m))
  listed (suc k) p (r ∷ rows) rise each from below = ⊎_elim
      (λ (e : p ≡ row_place m n r).
      let past : (r' : List ℕ) → Memᴰ r' rows → p < row_place m n r' = λ r' m. let h = after r' m in omega arith in
      let z : row_place m n r - p ≡ 0 = omega arith in
      rw (z, behind (row_place m n) p (get_or r 3 0) (replicate k absent) rows past, own.present)
      (ap₂ ◌∷◌ (rw e (own_row r own)) (listed k (suc p) rows rise.1 (λ r' m. each r' (Memᴰ.tail m)) past (λ r' m. let h = below r' (Memᴰ.tail m) in omega arith))))
      (λ (h : p < row_place m n r).
      let past : (r' : List ℕ) → Memᴰ r' (r ∷ rows) → p < row_place m n r' = λ r' m. ⊎_elim (λ e. rw e h) (λ m. let h' = after r' m in omega arith) (Memᴰ.cases_cons m) in
      rw (behind (row_place m n) p absent (replicate k absent) (r ∷ rows) past)
      (listed k (suc p) (r ∷ rows) rise each past (λ r' m. let h = below r' m in omega arith)))
      (eq-or-lt_of_le (from r (Memᴰ.head refl)))
    where
      own : Listable r
      own = each r (Memᴰ.head refl)

      after : (r' : List ℕ) → Memᴰ r' rows → row_place m n r < row_place m n r'
      after r' m' = later r r' own (each r' (Memᴰ.tail m')) (rise.0 r' m')

pub listing_table : (m n states : ℕ) (rows : List (List ℕ)) → StepRows m n states rows → ((r : List ℕ) → Memᴰ r rows → length r ≡ 4) → KeysRise 3 rows
    → listing m n 0 (table_of m n states rows) ≡ rows
unfolding table_of
listing_table m n states rows sound sizes rise = simp sub-zero at (listed m n (states * (m * n)) 0 rows rise
    (λ r mr. let few = sound.few in let h = sound.next_below r mr in
    record { fields = sizes r mr; x_low = sound.x_below r mr; y_low = sound.y_below r mr; present = ne_eqb (get_or r 3 0) absent (λ e. omega arith) })
    (λ r mr. omega arith)
    (λ r mr. let h = place_below m n states (get_or r 0 0) (get_or r 1 0) (get_or r 2 0) (sound.state_below r mr) (sound.x_below r mr) (sound.y_below r mr) in omega arith))
