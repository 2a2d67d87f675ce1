-- A code below a count is known by its number.
-- Assumes nothing.
use mathlib.Core.Path.{◌≡◌}
use mathlib.Core.HLevel.{Σ_prop_path}
use Prim.Native.Nat.{ℕ}
use native.Mathlib.Bridge.{le_prop}
use Rattle.words.specs.Codes.{Below}

pub same_code : {n : ℕ} {a b : Below n} → a.0 ≡ b.0 → a ≡ b
same_code = Σ_prop_path (λ k. le_prop)
