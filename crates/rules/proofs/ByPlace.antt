-- The numbers of a record and its rows, each by its place.
-- Assumes nothing.
use mathlib.Core.Path.{◌≡◌, refl, ap}
use mathlib.Core.List.{List, [], ◌∷◌}
use Prim.Native.Nat.{ℕ, zero, suc, ◌*◌, ◌<◌}
use native.Mathlib.Nat.{zero-mul, suc-mul, add_comm, not-suc-le-zero, le_of_suc-le-suc}
use lib.ListN.{length, get_or, take, drop}
use lib.Seq.{drop-drop}
use Rattle.pairs.specs.Scans.{total}
use Rattle.rules.specs.Layouts.{Layout}
use Rattle.rules.specs.Bytes.{little, numbers}
use Rattle.rules.specs.Records.{rows_of, row_count, rows_in}

pub length_numbers : (ws b : List ℕ) → length (numbers ws b) ≡ length ws
unfolding numbers
length_numbers [] b = refl
length_numbers (w ∷ ws) b = ap suc (length_numbers ws (drop w b))

-- the number at place j stands behind those before it
pub numbers_at : (ws : List ℕ) (j : ℕ) (b : List ℕ) → j < length ws → get_or (numbers ws b) j 0 ≡ little (get_or ws j 0) (drop (total (take j ws)) b)
unfolding numbers total
numbers_at [] j b h = absurd (not-suc-le-zero h)
numbers_at (w ∷ ws) zero b h = refl
numbers_at (w ∷ ws) (suc j) b h = rw (numbers_at ws j (drop w b) (le_of_suc-le-suc h), drop-drop)

pub length_rows : (ws : List ℕ) (n : ℕ) (b : List ℕ) → length (rows_of ws n b) ≡ n
unfolding rows_of
length_rows ws zero b = refl
length_rows ws (suc n) b = ap suc (length_rows ws n (drop (total ws) b))

-- row r of a table
pub rows_at : (ws : List ℕ) (n r : ℕ) (b : List ℕ) → r < n → get_or (rows_of ws n b) r [] ≡ numbers ws (drop (r * total ws) b)
unfolding rows_of
rows_at ws zero r b h = absurd (not-suc-le-zero h)
rows_at ws (suc n) zero b h = rw zero-mul
rows_at ws (suc n) (suc r) b h = rw (rows_at ws n r (drop (total ws) b) (le_of_suc-le-suc h), drop-drop, suc-mul, add_comm (total ws) (r * total ws))

pub rows_there : (l : Layout) (b : List ℕ) → length (rows_in l b) ≡ row_count l b
rows_there l b = length_rows l.field_sizes (row_count l b) _
