-- How long the digits of a number are, and each line: 10 digits are enough for a number of 32 bits.
-- Assumes nothing.
use mathlib.Core.Path.{◌≡◌, refl}
use mathlib.Core.Bool.{Bool, true, false}
use mathlib.Core.List.{[], ◌∷◌}
use Prim.Native.Nat.{ℕ, zero, suc, ◌+◌, ◌*◌, ◌/◌, ◌^◌, ◌≤◌, ◌<◌}
use native.Mathlib.Nat.{not-suc-le-zero, pow-suc}
use native.Mathlib.Omega.{arith}
use lib.Dec.{ltb, eqb}
use lib.ListN.{length, length-append}
use borrow.Author.Tests.{ltb-true, ltb-false, eqb-true, eqb-false}
use Rattle.rules.specs.declared.Reply.{Reply}
use Rattle.text.specs.Lines.{digits, line, states_word, rounds_word, refused_word, record_word, row_word, fits_word, refused_text, solved_line, checked_text}
use Rattle.text.proofs.Digits.{digits_one, digits_more}
use Rattle.text.proofs.LineLaws.{checked_refused, checked_parts}

pub length_one : (n : ℕ) → n < 10 → length (digits n) ≡ 1
length_one n h = rw (digits_one n h)

pub length_more : (n : ℕ) → 10 ≤ n → length (digits n) ≡ length (digits (n / 10)) + 1
length_more n h = rw (digits_more n h, length-append)

-- a digit more for ten times as many numbers
digits_few : (j n : ℕ) → n < 10 ^ suc j → length (digits n) ≤ suc j
digits_few zero n h = omega (arith, length_one n h)
digits_few (suc j) n h = go (ltb n 10) refl (digits_few j (n / 10))
  where
    go : (b : Bool) → ltb n 10 ≡ b → (n / 10 < 10 ^ suc j → length (digits (n / 10)) ≤ suc j) → length (digits n) ≤ suc (suc j)
    go true e rest = omega (arith, length_one n (ltb-true n 10 e))
    go false e rest =
        let few : n < 10 ^ suc j * 10 = rw (pow-suc 10 (suc j)) at h in
        omega (arith, length_more n (ltb-false n 10 e), rest (omega arith))

pub digits_length : (k n : ℕ) → n < 10 ^ k → 1 ≤ k → length (digits n) ≤ k
digits_length zero n h k = absurd (not-suc-le-zero k)
digits_length (suc j) n h k = digits_few j n h

-- 2 ^ 32 is less than 10 ^ 10
ten_digits : (n : ℕ) → n < 2 ^ 32 → length (digits n) ≤ 10
ten_digits n h = digits_length 10 n (omega arith) (omega arith)

pub refused_length : (r : Reply) → r.number < 2 ^ 32 → r.«record» < 2 ^ 32 → r.row < 2 ^ 32 → r.rounds < 2 ^ 32 → length (refused_text r) ≤ 70
unfolding refused_text line refused_word record_word row_word rounds_word
refused_length r n k w t = simp length-append (omega (arith, ten_digits r.number n, ten_digits r.«record» k, ten_digits r.row w, ten_digits r.rounds t))

pub solved_line_length : (states rounds : ℕ) → states < 2 ^ 32 → rounds < 2 ^ 32 → length (solved_line states rounds) ≤ 36
unfolding solved_line line states_word rounds_word
solved_line_length states rounds s t = simp length-append (omega (arith, ten_digits states s, ten_digits rounds t))

pub step_line_length : (state u v next : ℕ) → state < 1000 → u < 10 → v < 10 → next < 100000 → length (line (state ∷ u ∷ v ∷ next ∷ [])) ≤ 14
unfolding line
step_line_length state u v next s hu hv n =
    simp length-append (omega (arith, digits_length 3 state (omega arith) (omega arith), length_one u hu, length_one v hv, digits_length 5 next (omega arith) (omega arith)))

pub checked_length : (r : Reply) → r.number < 2 ^ 32 → r.«record» < 2 ^ 32 → r.row < 2 ^ 32 → r.rounds < 2 ^ 32 → r.states < 2 ^ 32 → length (checked_text r) ≤ 70
unfolding fits_word states_word
checked_length r n k w t s = go (eqb r.number 0) refl
  where
    go : (b : Bool) → eqb r.number 0 ≡ b → length (checked_text r) ≤ 70
    go true e = rw (checked_parts r (eqb-true r.number 0 e)) (simp length-append (omega (arith, ten_digits r.states s)))
    go false e = rw (checked_refused r (eqb-false r.number 0 e)) (refused_length r n k w t)
