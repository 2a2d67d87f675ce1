-- Document 01: the limits that more than one definition names.
-- Assumes nothing.
use Rattle.std.specs.Prelude.{ℕ, ◌*◌}
use Rattle.pairs.specs.Lent.{set_size}

-- "Controller: 1 to 512 states", "more than 512 plain states"
unfoldable pub state_limit : ℕ
state_limit = 512

-- "at least 512 numbers of 64 bits and 8,192 of 16 bits": the first have room for the set of each state
unfoldable pub set_numbers : ℕ
set_numbers = state_limit * set_size

unfoldable pub next_numbers : ℕ
next_numbers = 8192

-- "65535 where absent"
abbrev pub absent : ℕ
absent = 65535
