-- The tender: "A controller table written and read back is unchanged, and so is a controller record read and written again." What is unchanged.
-- Assumes nothing.
use Rattle.std.specs.Prelude.{◌≡◌, ℕ, ◌+◌, ◌<◌, length, take, drop}
use mathlib.Core.List.{List, ◌++◌, Memᴰ}
use Rattle.pairs.specs.Lent.{filled}
use Rattle.rules.specs.declared.Reply.{Reply}
use Rattle.rules.specs.Limits.{next_numbers}
use Rattle.rules.specs.Replies.{success}
use Rattle.rules.specs.Reading.{Reading, reading_reply, reading_counts}

-- read with the U, V, states and places given: the lent numbers hold the places and zeros after them, and what was beyond
pub record ReadBack (n_u n_v states : ℕ) (table lent : List ℕ) (r : Reading) (lent' : List ℕ) : Type 0 where
  pub reply_same : reading_reply r ≡ success states 0
  pub u_same : (reading_counts r).u ≡ n_u
  pub v_same : (reading_counts r).v ≡ n_v
  pub states_same : (reading_counts r).states ≡ states
  pub places_same : lent' ≡ filled next_numbers table lent

-- the reply is 0, and the buffer has the bytes b from the start place on; all other bytes are as they were
pub record WrittenBack (b buffer : List ℕ) (start states : ℕ) (reply : Reply) (buffer' : List ℕ) : Type 0 where
  pub reply_is : reply ≡ success states 0
  pub buffer_is : buffer' ≡ take start buffer ++ b ++ drop (start + length b) buffer

-- each number is a byte
abbrev pub Bytes : List ℕ → Type 0
Bytes b = (x : ℕ) → Memᴰ x b → x < 256
