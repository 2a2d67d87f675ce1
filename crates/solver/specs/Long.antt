-- The room that the lent buffers have. No promise to a caller names this.
-- Assumes nothing.
use Rattle.std.specs.Prelude.{ℕ, List, ◌≤◌, length}
use Rattle.rules.specs.Limits.{set_numbers, next_numbers}

-- the buffers are long enough
pub record Long (sets next : List ℕ) : Type 0 where
  pub sets_room : set_numbers ≤ length sets
  pub next_room : next_numbers ≤ length next
