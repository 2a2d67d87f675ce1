-- The rows of a next table, listed by places: no more than places, fields below their counts, keys that rise; and their table is the one listed.
-- Assumes nothing.
use Rattle.std.specs.Prelude.{if◌then◌else◌, Ok}
use mathlib.Core.Path.{◌≡◌, refl, ap, ◌∙◌}
use mathlib.Core.Logic.{◌⊎◌, inl, inr, ⊎_elim, ◌≢◌}
use mathlib.Core.Bool.{Bool, true, false}
use mathlib.Core.List.Memᴰ
use mathlib.Core.List.{List, [], ◌∷◌, ◌++◌, Memᴰ}
use Prim.Native.Nat.{ℕ, suc, ◌+◌, ◌*◌, ◌/◌, ◌%◌, ◌≤◌, ◌<◌}
use native.Mathlib.Nat.{mul_comm, mul_assoc, add-mul, mul-pos, mod-lt, div-add-mod', div-mul-le_self, div-div-eq-div-mul, div-lt_iff_lt-mul, le-div_iff_mul-le, eq-or-lt_of_le}
use native.Mathlib.Omega.{arith}
use lib.Dec.{eqb}
use lib.ListN.{length, set, replicate, length-append}
use lib.Seq.{append_snoc, set_at}
use borrow.Author.Tests.{eqb-true, eqb-false, lt-ltb}
use Rattle.pairs.specs.Scans.{all_with, same, less}
use Rattle.rules.specs.Limits.{absent}
use Rattle.rules.specs.Layouts.{controller_layout}
use Rattle.rules.specs.Faults.{row_fault, rows_fault}
use Rattle.rules.specs.NextTables.{step_place, table_of, listing}
use Rattle.rules.proofs.Keys.{front_less, less_not_less, less_not_same}
use Rattle.rules.proofs.NextTables.{entered, row_place}
use Rattle.rules.proofs.WrittenBytes.{Fit}

-- of two numbers the lower has the lower quotient, or the same and the lower remainder
quotient_rises : (n p q : ℕ) → 0 < n → p < q → (p / n < q / n) ⊎ ((p / n ≡ q / n) × (p % n < q % n))
quotient_rises n p q hn h = ⊎_elim
    (λ e. inr (e, let e' : p / n * n ≡ q / n * n = ap (λ x. x * n) e in omega (arith, div-add-mod' p n, div-add-mod' q n)))
    inl
    (eq-or-lt_of_le ((le-div_iff_mul-le hn).1 (omega (arith, div-mul-le_self p n))))

module _ (m n : ℕ) where
  -- the key of a place
  abbrev place_key : ℕ → List ℕ
  place_key p = p / (m * n) ∷ p / n % m ∷ p % n ∷ []

  abbrev place_row : ℕ → ℕ → List ℕ
  place_row p t = p / (m * n) ∷ p / n % m ∷ p % n ∷ t ∷ []

  state_at : (p : ℕ) → p / (m * n) ≡ p / n / m
  state_at p = rw (mul_comm m n, div-div-eq-div-mul)

  place_back : (p : ℕ) → step_place m n (p / (m * n)) (p / n % m) (p % n) ≡ p
  place_back p =
      let e : p / n / m * (m * n) + p / n % m * n ≡ p / n * n = rw (← mul_assoc, ← add-mul, div-add-mod') in
      rw state_at (omega (arith, div-add-mod' p n))

  -- a place gives no row where it is 65535, else its row
  listing_step : (p t : ℕ) (ts : List ℕ) → ((t ≡ absent) × (listing m n p (t ∷ ts) ≡ listing m n (suc p) ts)) ⊎ ((t ≢ absent) × (listing m n p (t ∷ ts) ≡ place_row p t ∷ listing m n (suc p) ts))
  unfolding listing
  listing_step p t ts = go (eqb t absent) refl
    where
      go : (b : Bool) → eqb t absent ≡ b → ((t ≡ absent) × ((if b then listing m n (suc p) ts else place_row p t ∷ listing m n (suc p) ts) ≡ listing m n (suc p) ts))
          ⊎ ((t ≢ absent) × ((if b then listing m n (suc p) ts else place_row p t ∷ listing m n (suc p) ts) ≡ place_row p t ∷ listing m n (suc p) ts))
      go true e = inl (eqb-true t absent e, refl)
      go false e = inr (eqb-false t absent e, refl)

  pub listing_few : (p : ℕ) (ts : List ℕ) → length (listing m n p ts) ≤ length ts
  unfolding listing
  listing_few p [] = omega arith
  listing_few p (t ∷ ts) = let rest = listing_few (suc p) ts in ⊎_elim (λ h. rw h.1 (omega arith)) (λ h. rw h.1 (omega arith)) (listing_step p t ts)

  -- where the places before p are entered, the rows enter the others
  entered_listing : (p : ℕ) (front ts : List ℕ) → length front ≡ p → entered (row_place m n) (front ++ replicate (length ts) absent) (listing m n p ts) ≡ front ++ ts
  unfolding listing
  entered_listing p front [] e = refl
  entered_listing p front (t ∷ ts) e =
      let rest = entered_listing (suc p) (front ++ (t ∷ [])) ts (rw length-append (omega arith)) in
      let rest' : entered (row_place m n) (front ++ t ∷ replicate (length ts) absent) (listing m n (suc p) ts) ≡ front ++ t ∷ ts = simp append_snoc at rest in
      let row : set (front ++ absent ∷ replicate (length ts) absent) (row_place m n (place_row p t)) t ≡ front ++ t ∷ replicate (length ts) absent =
      rw (place_back p) (set_at front absent (replicate (length ts) absent) t p e) in
      ⊎_elim (λ h. rw (h.1, h.0) (rw h.0 at rest')) (λ h. rw h.1 (ap (λ acc. entered (row_place m n) acc (listing m n (suc p) ts)) row ∙ rest')) (listing_step p t ts)

  pub table_of_listing : (states : ℕ) (places : List ℕ) → length places ≡ states * (m * n) → table_of m n states (listing m n 0 places) ≡ places
  unfolding table_of
  table_of_listing states places e = rw (← e) (entered_listing 0 [] places refl)

-- each entry is 65535 or a state
abbrev pub StatesIn : ℕ → List ℕ → Type 0
StatesIn states ts = (t : ℕ) → Memᴰ t ts → (t ≡ absent) ⊎ (t < states)

present : (states t : ℕ) (ts : List ℕ) → StatesIn states (t ∷ ts) → t ≢ absent → t < states
present states t ts each n = ⊎_elim (λ e. absurd (n e)) (λ h. h) (each t (Memᴰ.head refl))

module _ (m n states : ℕ) (hm : 0 < m) (hn : 0 < n) where
  key_rises : (p q : ℕ) → p < q → less (place_key m n p) (place_key m n q) ≡ true
  key_rises p q h = rw (state_at m n p, state_at m n q) (go (quotient_rises n p q hn h) (quotient_rises m (p / n) (q / n) hm))
    where
      go : (p / n < q / n) ⊎ ((p / n ≡ q / n) × (p % n < q % n)) → (p / n < q / n → (p / n / m < q / n / m) ⊎ ((p / n / m ≡ q / n / m) × (p / n % m < q / n % m)))
          → less (p / n / m ∷ p / n % m ∷ p % n ∷ []) (q / n / m ∷ q / n % m ∷ q % n ∷ []) ≡ true
      go (inl a) above = ⊎_elim
          (λ b. front_less _ _ _ _ (inl b))
          (λ b. front_less _ _ _ _ (inr (b.0, front_less _ _ _ _ (inl b.1))))
          (above a)
      go (inr a) above = front_less _ _ _ _ (inr (ap (λ x. x / m) a.0, front_less _ _ _ _ (inr (ap (λ x. x % m) a.0, front_less _ _ _ _ (inl a.1)))))

  -- the keys from place p on are after this one
  abbrev Above : ℕ → List ℕ → Type 0
  Above p before = (q : ℕ) → p ≤ q → (same (place_key m n q) before ≡ false) × (less (place_key m n q) before ≡ false)

  above_key : (p : ℕ) → Above (suc p) (place_key m n p)
  above_key p q h = let r = key_rises p q h in (less_not_same (place_key m n p) (place_key m n q) r, less_not_less (place_key m n p) (place_key m n q) r)

  row_sound : (k p t : ℕ) (before : List ℕ) → p < states * (m * n) → t < states → Above p before → row_fault controller_layout (m ∷ n ∷ states ∷ []) k before (place_row m n p t) ≡ Ok tt
  unfolding row_fault controller_layout all_with
  row_sound k p t before hp ht above =
      let (new, up) = above p (omega arith) in
      rw (lt-ltb (p / (m * n)) states ((div-lt_iff_lt-mul (mul-pos hm hn)).1 hp), lt-ltb (p / n % m) m (mod-lt (p / n) hm), lt-ltb (p % n) n (mod-lt p hn), lt-ltb t states ht, new, up)

  rows_sound : (k p : ℕ) (before ts : List ℕ) → p + length ts ≤ states * (m * n) → StatesIn states ts → Above p before → rows_fault controller_layout (m ∷ n ∷ states ∷ []) k before (listing m n p ts) ≡ Ok tt
  unfolding listing rows_fault controller_layout
  rows_sound k p before [] few each above = refl
  rows_sound k p before (t ∷ ts) few each above = ⊎_elim
      (λ h. rw h.1 (rows_sound k (suc p) before ts (omega arith) (λ t m. each t (Memᴰ.tail m)) (λ q h. above q (omega arith))))
      (λ h. rw (h.1, row_sound k p t before (omega arith) (present states t ts each h.0) above) (rows_sound (suc k) (suc p) (place_key m n p) ts (omega arith) (λ t m. each t (Memᴰ.tail m)) (above_key p)))
      (listing_step m n p t ts)

  pub listing_sound : (places : List ℕ) → length places ≤ states * (m * n) → StatesIn states places → rows_fault controller_layout (m ∷ n ∷ states ∷ []) 0 [] (listing m n 0 places) ≡ Ok tt
  unfolding all_with less
  listing_sound places few each = rows_sound 0 0 [] places (omega arith) each (λ q h. (refl, refl))

  pub listing_fits : m ≤ 256 → n ≤ 256 → states ≤ 65536 → (p : ℕ) (ts : List ℕ) → p + length ts ≤ states * (m * n) → StatesIn states ts → (r : List ℕ) → Memᴰ r (listing m n p ts) → Fit controller_layout.field_sizes r
  unfolding listing controller_layout
  listing_fits lm ln ls p [] few each r mr = absurd (Memᴰ.not-nil mr)
  listing_fits lm ln ls p (t ∷ ts) few each r mr =
      let rest = listing_fits lm ln ls (suc p) ts (omega arith) (λ t m. each t (Memᴰ.tail m)) r in
      ⊎_elim
      (λ h. rest (rw h.1 at mr))
      (λ h. ⊎_elim (λ e. rw e (row_fits (present states t ts each h.0))) rest (Memᴰ.cases_cons (rw h.1 at mr)))
      (listing_step m n p t ts)
    where
      row_fits : t < states → Fit controller_layout.field_sizes (place_row m n p t)
      row_fits ht =
          let s_below : p / (m * n) < states = (div-lt_iff_lt-mul (mul-pos hm hn)).1 (omega arith) in
          let u_below : p / n % m < m = mod-lt (p / n) hm in
          let v_below : p % n < n = mod-lt p hn in
          (omega arith, (omega arith, (omega arith, (omega arith, tt))))
