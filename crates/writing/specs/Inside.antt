-- What the private functions promise to each other. No promise to a caller names these.
-- Assumes nothing.
use Rattle.std.specs.Prelude.{◌≡◌, ℕ, ◌+◌, ◌*◌, ◌/◌, ◌%◌, ◌≤◌, Bool, not, ◌||◌, ltb, eqb, length, Result, Ok, Err, if◌then◌else◌}
use mathlib.Core.List.{List, [], ◌∷◌, ◌++◌, flat_map}
use Rattle.rules.specs.Limits.{absent}
use Rattle.rules.specs.Layouts.{controller_layout}
use Rattle.rules.specs.Bytes.{bytes_of, written}
use Rattle.rules.specs.declared.Refusal.{Refusal}
use Rattle.rules.specs.declared.Reply.{Reply}
use Rattle.rules.specs.Replies.{success, refusal_reply}
use Rattle.rules.specs.Writing.{ControllerWritten}
use Rattle.rules.specs.NextTables.{listing}

-- how many places have a row
unfoldable pub present : List ℕ → ℕ
present [] = 0
present (t ∷ ts) = if eqb t absent then present ts else 1 + present ts

-- a place is bad that is neither 65535 nor a state
abbrev pub is_bad : ℕ → ℕ → Bool
is_bad states j = not (eqb j absent || ltb j states)

-- the row of place p, and the rows of the places from p on, written
abbrev pub row_bytes : ℕ → ℕ → ℕ → ℕ → List ℕ
row_bytes n_u n_v p t = written controller_layout.field_sizes (p / (n_u * n_v) ∷ p / n_v % n_u ∷ p % n_v ∷ t ∷ [])

unfoldable pub rows_bytes : ℕ → ℕ → ℕ → List ℕ → List ℕ
rows_bytes n_u n_v p ts = flat_map (written controller_layout.field_sizes) (listing n_u n_v p ts)

-- the bytes before so many rows
abbrev pub head_bytes : ℕ → ℕ → ℕ → ℕ → List ℕ
head_bytes n_u n_v states rows = bytes_of 2 (6 + rows * 6) ++ controller_layout.kind ++ written controller_layout.count_sizes (n_u ∷ n_v ∷ states ∷ [])

-- codes that the writer takes
pub record Codes (n_u n_v : ℕ) : Type 0 where
  pub some_u : 1 ≤ n_u
  pub few_u : n_u ≤ 4
  pub some_v : 1 ≤ n_v
  pub few_v : n_v ≤ 4

-- what the writer knows of a table that is not refused
pub record Writable (n_u n_v states : ℕ) (places : List ℕ) (rows : ℕ) : Type 0 where
  pub codes : Codes n_u n_v
  pub few_states : states ≤ 512
  pub size_is : length places ≡ states * (n_u * n_v)
  pub rows_are : rows ≡ present places

-- how a write ends, as a reply; and what it promises
abbrev pub outcome_reply : ℕ → Result Unit Refusal → Reply
outcome_reply states (Ok _) = success states 0
outcome_reply states (Err r) = refusal_reply r

abbrev pub Outcome : ℕ → ℕ → ℕ → List ℕ → List ℕ → ℕ → Result Unit Refusal → List ℕ → Type 0
Outcome n_u n_v states next buffer start r buffer' = ControllerWritten n_u n_v states next buffer start (outcome_reply states r) buffer'
