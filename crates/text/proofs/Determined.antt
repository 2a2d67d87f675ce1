-- The predicates of the public functions determine the outcome; that of a reading does where the input is known and no read fails.
-- Assumes nothing.
use mathlib.Core.Path.{◌≡◌, sym, ap, ◌∙◌}
use mathlib.Core.Logic.{◌⊎◌, inl, inr}
use mathlib.Core.List.{List}
use Prim.Native.Nat.{ℕ, ◌+◌, ◌≤◌, ◌<◌, min}
use native.Mathlib.Omega.{arith}
use lib.ListN.{length, take, length-append}
use Rattle.std.specs.Prelude.{Option, None, Some}
use Rattle.std.proofs.lemmas.Bool.{cases_lt}
use Rattle.std.proofs.lemmas.List.{length-take-le, take-append-le}
use Rattle.std.proofs.Common.{take_all}
use Rattle.pairs.proofs.Determined.{determined}
use Rattle.text.specs.Inputs.{RecordEnd}
use Rattle.text.specs.Programs.{TextPut}
use Rattle.text.specs.Reading.{FrontRead}

pub record_end_determined : (b : List ℕ) (m n : ℕ) → RecordEnd b m → RecordEnd b n → m ≡ n
record_end_determined b m n = determined

pub text_determined : (limit : ℕ) (text buffer : List ℕ) (m n : ℕ) (a b : List ℕ) → TextPut limit text buffer m a → TextPut limit text buffer n b → (m ≡ n) × (a ≡ b)
text_determined limit text buffer m n a b x y = (determined x.size_is y.size_is, determined x.buffer_is y.buffer_is)

-- the bytes that come are the first of the input, as many as there is room for
front_is : (xs : List ℕ) (after : Option (List ℕ)) (b : List ℕ) (m : ℕ) → FrontRead (Some xs) after b m → (m ≡ min (length b) (length xs)) × (take m b ≡ take m xs)
front_is xs None b m x = absurd x.bytes
front_is xs (Some ys) b m x = (go (cases_lt m (length b)), sym (ap (take m) x.bytes ∙ take-append-le m (take m b) ys (omega (arith, size)) ∙ take_all m (take m b) (omega (arith, size))))
  where
    size : length (take m b) ≡ m
    size = length-take-le m b x.within

    all : length xs ≡ m + length ys
    all = ap length x.bytes ∙ length-append (take m b) ys ∙ ap (λ k. k + length ys) size

    go : (m < length b) ⊎ (length b ≤ m) → m ≡ min (length b) (length xs)
    go (inl less) = omega (arith, all, ap length (x.to_the_end less))
    go (inr full) = omega (arith, all, x.within)

-- two readings of one known input into buffers of one length, where none fails: as many bytes, and the same
module _ (xs : List ℕ) (after after₁ : Option (List ℕ)) (b b₁ : List ℕ) (m n : ℕ) (same_room : length b ≡ length b₁) where
  pub fully_read_determined : FrontRead (Some xs) after b m → FrontRead (Some xs) after₁ b₁ n → (m ≡ n) × (take m b ≡ take n b₁)
  fully_read_determined x y =
      let (few, first) = front_is xs after b m x in
      let (few₁, first₁) = front_is xs after₁ b₁ n y in
      let same : m ≡ n = few ∙ ap (λ k. min k (length xs)) same_room ∙ sym few₁ in
      (same, first ∙ ap (λ k. take k xs) same ∙ sym first₁)
