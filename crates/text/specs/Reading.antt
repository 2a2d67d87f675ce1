-- What a program has of its standard input: the bytes at the front of a buffer.
-- Assumes nothing.
use Rattle.std.specs.Prelude.{ℕ, List, Option, Result, IfOk, length, take, ◌<◌, ◌≤◌}
use Rattle.std.specs.Io.KnownBytes.{Consumes, IsAtEnd}

-- n bytes were read to the front of the buffer, those that the input had first; fewer than the buffer has room for only where the input ended. What the
-- input has, before and after, is said where it is known
pub record FrontRead (before after : Option (List ℕ)) (buffer' : List ℕ) (n : ℕ) : Type 0 where
  pub within : n ≤ length buffer'
  pub bytes : Consumes before after (take n buffer')
  pub to_the_end : n < length buffer' → IsAtEnd after

-- what the function ensures, where no read fails
abbrev pub FullyRead : {E : Type 0} → Option (List ℕ) → Option (List ℕ) → Result ℕ E → List ℕ → Type 0
FullyRead before after r buffer' = IfOk r (FrontRead before after buffer')
