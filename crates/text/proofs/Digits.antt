-- The digits of a number: each is one of 0 to 9, all but the last are those of a tenth of it, read back they give the number, none is lost for lack of fuel, and only 0 begins with 0.
-- Assumes nothing.
use Rattle.std.specs.Prelude.{if◌then◌else◌}
use mathlib.Core.Path.{◌≡◌, refl, sym, ap, ◌∙◌}
use mathlib.Core.Logic.{⊎_elim}
use mathlib.Core.Bool.{Bool, true, false}
use mathlib.Core.List.Memᴰ
use mathlib.Core.List.{List, [], ◌∷◌, ◌++◌, foldl, foldl-append, Memᴰ}
use Prim.Native.Nat.{ℕ, zero, suc, ◌+◌, ◌-◌, ◌*◌, ◌/◌, ◌%◌, ◌≤◌, ◌<◌}
use native.Mathlib.Nat.{not-suc-le-zero, div-lt_self, div-add-mod', mod-lt}
use native.Mathlib.Omega.{arith}
use lib.Dec.{ltb}
use lib.ListN.{length, get_or, length-append, get_or-append}
use borrow.Author.Tests.{ltb-true, ltb-false, lt-ltb, le-ltb}
use Rattle.text.specs.Lines.{decimal, digits}

-- the number that digits stand for, read from the front
abbrev pub value : List ℕ → ℕ
value ds = foldl (λ n d. n * 10 + (d - 48)) 0 ds

-- the number without its last digit is smaller
shorter : (n : ℕ) → 10 ≤ n → n / 10 < n
shorter n h = div-lt_self (omega arith) (omega arith)

decimal_fuel : (f g n : ℕ) → n < f → n < g → decimal f n ≡ decimal g n
unfolding decimal
decimal_fuel zero g n hf hg = absurd (not-suc-le-zero hf)
decimal_fuel (suc f) zero n hf hg = absurd (not-suc-le-zero hg)
decimal_fuel (suc f) (suc g) n hf hg = go (ltb n 10) refl (decimal_fuel f g (n / 10))
  where
    go : (b : Bool) → ltb n 10 ≡ b → (n / 10 < f → n / 10 < g → decimal f (n / 10) ≡ decimal g (n / 10))
        → (if b then (48 + n) ∷ [] else decimal f (n / 10) ++ ((48 + n % 10) ∷ [])) ≡ (if b then (48 + n) ∷ [] else decimal g (n / 10) ++ ((48 + n % 10) ∷ []))
    go true e rest = refl
    go false e rest = let s : n / 10 < n = shorter n (ltb-false n 10 e) in ap (λ l. l ++ ((48 + n % 10) ∷ [])) (rest (omega arith) (omega arith))

pub digits_fuel : (f n : ℕ) → n < f → decimal f n ≡ digits n
unfolding digits
digits_fuel f n h = decimal_fuel f (suc n) n h (omega arith)

pub digits_one : (n : ℕ) → n < 10 → digits n ≡ (48 + n) ∷ []
unfolding digits decimal
digits_one n h = rw (lt-ltb n 10 h)

-- the last digit stands behind those of the number without it
pub digits_more : (n : ℕ) → 10 ≤ n → digits n ≡ digits (n / 10) ++ ((48 + n % 10) ∷ [])
unfolding digits decimal
digits_more n h = rw (le-ltb n 10 h) (ap (λ l. l ++ ((48 + n % 10) ∷ [])) (digits_fuel n (n / 10) (shorter n h)))

decimal_value : (f n : ℕ) → n < f → value (decimal f n) ≡ n
unfolding decimal
decimal_value zero n h = absurd (not-suc-le-zero h)
decimal_value (suc f) n h = go (ltb n 10) refl (decimal_value f (n / 10))
  where
    go : (b : Bool) → ltb n 10 ≡ b → (n / 10 < f → value (decimal f (n / 10)) ≡ n / 10)
        → value (if b then (48 + n) ∷ [] else decimal f (n / 10) ++ ((48 + n % 10) ∷ [])) ≡ n
    go true e rest = omega arith
    go false e rest =
        let s : n / 10 < n = shorter n (ltb-false n 10 e) in
        let r : value (decimal f (n / 10)) ≡ n / 10 = rest (omega arith) in
        let q : n / 10 * 10 + n % 10 ≡ n = div-add-mod' n 10 in
        foldl-append (λ n d. n * 10 + (d - 48)) 0 (decimal f (n / 10)) ((48 + n % 10) ∷ []) ∙ rw r (omega arith)

pub digits_value : (n : ℕ) → value (digits n) ≡ n
unfolding digits
digits_value n = decimal_value (suc n) n (omega arith)

decimal_range : (f n d : ℕ) → Memᴰ d (decimal f n) → (48 ≤ d) × (d ≤ 57)
unfolding decimal
decimal_range zero n d m = absurd (Memᴰ.not-nil m)
decimal_range (suc f) n d m = go (ltb n 10) refl (decimal_range f (n / 10) d) m
  where
    digit : (k : ℕ) → k < 10 → Memᴰ d ((48 + k) ∷ []) → (48 ≤ d) × (d ≤ 57)
    digit k h m = let e : d ≡ 48 + k = Memᴰ.eq_of_singleton m in (omega arith, omega arith)

    go : (b : Bool) → ltb n 10 ≡ b → (Memᴰ d (decimal f (n / 10)) → (48 ≤ d) × (d ≤ 57))
        → Memᴰ d (if b then (48 + n) ∷ [] else decimal f (n / 10) ++ ((48 + n % 10) ∷ [])) → (48 ≤ d) × (d ≤ 57)
    go true e rest m = digit n (ltb-true n 10 e) m
    go false e rest m = ⊎_elim rest (digit (n % 10) (mod-lt n (omega arith))) (Memᴰ.append_cases (decimal f (n / 10)) m)

pub digits_range : (n d : ℕ) → Memᴰ d (digits n) → (48 ≤ d) × (d ≤ 57)
unfolding digits
digits_range n d m = decimal_range (suc n) n d m

-- the first digit of a number that is not 0 is not 0
decimal_first : (f n : ℕ) → n < f → (1 ≤ length (decimal f n)) × (get_or (decimal f n) 0 0 ≡ 48 → n ≡ 0)
unfolding decimal
decimal_first zero n h = absurd (not-suc-le-zero h)
decimal_first (suc f) n h = go (ltb n 10) refl (decimal_first f (n / 10))
  where
    go : (b : Bool) → ltb n 10 ≡ b → (n / 10 < f → (1 ≤ length (decimal f (n / 10))) × (get_or (decimal f (n / 10)) 0 0 ≡ 48 → n / 10 ≡ 0))
        → let l : List ℕ = if b then (48 + n) ∷ [] else decimal f (n / 10) ++ ((48 + n % 10) ∷ []) in (1 ≤ length l) × (get_or l 0 0 ≡ 48 → n ≡ 0)
    go true e rest = (omega arith, λ z. omega arith)
    go false e rest =
        let s : n / 10 < n = shorter n (ltb-false n 10 e) in
        let (l, r) = rest (omega arith) in
        let q : n / 10 * 10 + n % 10 ≡ n = div-add-mod' n 10 in
        let t : n % 10 < 10 = mod-lt n (omega arith) in
        let many : 10 ≤ n = ltb-false n 10 e in
        (rw length-append (omega arith), λ z. let w : n / 10 ≡ 0 = r (sym (get_or-append (decimal f (n / 10)) ((48 + n % 10) ∷ []) 0 0 l) ∙ z) in absurd (omega arith))

pub digits_first : (n : ℕ) → get_or (digits n) 0 0 ≡ 48 → n ≡ 0
unfolding digits
digits_first n = (decimal_first (suc n) n (omega arith)).1
