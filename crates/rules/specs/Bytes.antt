-- Document 01: "Multi-byte numbers are little-endian." Numbers of given sizes, one after the other, read and written.
-- Assumes nothing.
use Rattle.std.specs.Prelude.{ℕ, zero, suc, ◌+◌, ◌*◌, ◌/◌, ◌%◌, List, [], ◌∷◌, ◌++◌, drop}

-- a number of n bytes
unfoldable pub little : ℕ → List ℕ → ℕ
little zero b = 0
little (suc n) [] = 0
little (suc n) (x ∷ b) = x + 256 * little n b

-- the same, written
unfoldable pub bytes_of : ℕ → ℕ → List ℕ
bytes_of zero x = []
bytes_of (suc n) x = x % 256 ∷ bytes_of n (x / 256)

-- numbers of the given sizes
unfoldable pub numbers : List ℕ → List ℕ → List ℕ
numbers [] b = []
numbers (w ∷ ws) b = little w b ∷ numbers ws (drop w b)

-- the same, written
unfoldable pub written : List ℕ → List ℕ → List ℕ
written ws [] = []
written [] (x ∷ xs) = []
written (w ∷ ws) (x ∷ xs) = bytes_of w x ++ written ws xs
