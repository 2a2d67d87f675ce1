-- A text that grows in a lent buffer. No promise to a caller names this.
-- Assumes nothing.
use Rattle.std.specs.Prelude.{◌≡◌, List, ℕ, ◌+◌, ◌≤◌, length}
use Rattle.text.specs.Inside.{Appends}
use Rattle.text.specs.declared.growing.Text.{Text}

-- so many bytes more have room
abbrev pub Room : ℕ → Text → Type 0
Room n text = text.end + n ≤ length text.out.now

-- the bytes stand behind the text, which ends behind them; the rest of the buffer stays, and the same buffer is lent, as long as before
pub record Grown (bytes : List ℕ) (was now : Text) : Type 0 where
  pub appends : Appends was.end bytes was.out.now now.end now.out.now
  pub long : length now.out.now ≡ length was.out.now
  pub same : now.out.ghost_name ≡ was.out.ghost_name
