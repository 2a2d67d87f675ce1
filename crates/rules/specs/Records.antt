-- Document 01, "Records": "length first, two bytes, counting all bytes after itself; then the kind two bytes", then the counts and the rows.
-- Assumes nothing.
use Rattle.std.specs.Prelude.{ℕ, zero, suc, ◌+◌, ◌-◌, ◌/◌, length, take, drop}
use mathlib.Core.List.{List, [], ◌∷◌, ◌++◌, flat_map}
use Rattle.pairs.specs.Scans.{total}
use Rattle.rules.specs.Layouts.{Layout}
use Rattle.rules.specs.Bytes.{little, bytes_of, numbers, written}

-- n rows of fields of the given sizes
unfoldable pub rows_of : List ℕ → ℕ → List ℕ → List (List ℕ)
rows_of ws zero b = []
rows_of ws (suc n) b = numbers ws b ∷ rows_of ws n (drop (total ws) b)

-- what the length field says: the bytes after itself
abbrev pub length_in : List ℕ → ℕ
length_in b = little 2 b

abbrev pub kind_in : List ℕ → List ℕ
kind_in b = take 2 (drop 2 b)

module _ (l : Layout) where
  -- the bytes before the rows, and those of a row
  abbrev pub head_size : ℕ
  head_size = 4 + total l.count_sizes

  abbrev pub row_size : ℕ
  row_size = total l.field_sizes

  abbrev pub counts_in : List ℕ → List ℕ
  counts_in b = numbers l.count_sizes (drop 4 b)

  abbrev pub row_count : List ℕ → ℕ
  row_count b = (length b - head_size) / row_size

  abbrev pub rows_in : List ℕ → List (List ℕ)
  rows_in b = rows_of l.field_sizes (row_count b) (drop head_size b)

  -- a whole record, written
  unfoldable pub record_of : List ℕ → List (List ℕ) → List ℕ
  record_of counts rows =
      let body : List ℕ = l.kind ++ written l.count_sizes counts ++ flat_map (written l.field_sizes) rows in
      bytes_of 2 (length body) ++ body
