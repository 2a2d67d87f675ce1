-- Where the first record of the bytes ends: what the two returns of `record_end` say, and that it ends within the bytes.
-- Assumes nothing.
use Rattle.std.specs.Prelude.{if◌then◌else◌}
use mathlib.Core.Path.{◌≡◌, refl}
use mathlib.Core.Bool.{Bool, true, false, ◌||◌}
use mathlib.Core.List.{List}
use Prim.Native.Nat.{ℕ, ◌+◌, ◌*◌, ◌≤◌, ◌<◌, min}
use native.Mathlib.Omega.{arith}
use lib.Dec.{ltb}
use lib.ListN.{length, get_or}
use borrow.Author.Tests.{lt-ltb, le-ltb, ltb-true, ltb-false}
use Rattle.rules.specs.Records.{length_in}
use Rattle.records.proofs.NumberLaws.{little_two}
use Rattle.text.specs.Inputs.{record_end}

module _ (b : List ℕ) where
  -- "or absent"
  pub no_length : length b < 2 → length b ≡ record_end b
  unfolding record_end
  no_length h = rw (lt-ltb (length b) 2 h)

  said : get_or b 0 0 + get_or b 1 0 * 256 + 2 ≡ length_in b + 2
  said = rw (little_two b) (omega arith)

  -- "where its length says", or all bytes "if that is too far", however the number is reckoned
  pub told_end : (n : ℕ) → n ≡ get_or b 0 0 + get_or b 1 0 * 256 + 2 → 2 ≤ length b → min n (length b) ≡ record_end b
  unfolding record_end
  told_end n is h = rw (le-ltb (length b) 2 h) (go (ltb (length b) (length_in b + 2)) refl)
    where
      go : (far : Bool) → ltb (length b) (length_in b + 2) ≡ far → min n (length b) ≡ (if far then length b else length_in b + 2)
      go true e = omega (arith, is, said, ltb-true (length b) (length_in b + 2) e)
      go false e = omega (arith, is, said, ltb-false (length b) (length_in b + 2) e)

  pub end_within : record_end b ≤ length b
  unfolding record_end
  end_within = go (ltb (length b) 2) (ltb (length b) (length_in b + 2)) (ltb-false (length b) (length_in b + 2))
    where
      go : (short far : Bool) → (far ≡ false → length_in b + 2 ≤ length b) → (if short || far then length b else length_in b + 2) ≤ length b
      go true far near = omega arith
      go false true near = omega arith
      go false false near = near refl
