-- Document 01: "then zeros up to 512", "then zeros up to 8,192". What the functions ensure that zero the rest of lent numbers, for every lent buffer.
-- Assumes nothing.
use Rattle.std.specs.Prelude.{◌≡◌, ℕ, ◌*◌, List}
use Rattle.pairs.specs.Lent.{zeroed_from, set_size}
use Rattle.rules.specs.Limits.{set_numbers, next_numbers}

-- behind the first n sets
abbrev pub SetsZeroed : List ℕ → ℕ → List ℕ → Type 0
SetsZeroed sets n sets' = sets' ≡ zeroed_from set_numbers (n * set_size) sets

-- from a place on
abbrev pub NextZeroed : List ℕ → ℕ → List ℕ → Type 0
NextZeroed next from next' = next' ≡ zeroed_from next_numbers from next
