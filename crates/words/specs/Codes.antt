-- "I codes", "U codes": the codes below a count.
-- Assumes nothing.
use Rattle.std.specs.Prelude.{ℕ, ◌<◌}

abbrev pub Below : ℕ → Type 0
Below n = (k : ℕ) × (k < n)
