-- A record of any layout, written: reading it finds its counts and its rows, and no fault where the rows have none.
-- Assumes nothing.
use mathlib.Core.Path.{◌≡◌, refl, sym, ap, ◌∙◌}
use mathlib.Core.Bool.{true}
use mathlib.Core.List.{List, [], ◌++◌, flat_map, append_assoc, Memᴰ}
use Prim.Native.Nat.{ℕ, ◌+◌, ◌-◌, ◌*◌, ◌/◌, ◌≤◌, ◌<◌}
use native.Mathlib.Nat.{mul-div_left, mul-mod_left}
use native.Mathlib.Omega.{arith}
use lib.Dec.{eqb}
use lib.ListN.{length, take, drop, length-append}
use lib.Seq.{take_at, drop_at, drop-drop}
use borrow.Author.Tests.{le-ltb, eq-eqb}
use Rattle.pairs.specs.Scans.{total}
use Rattle.pairs.proofs.Lists.{length_flat_map}
use Rattle.pairs.proofs.Scans.{with_self}
use Rattle.std.specs.Prelude.{Ok}
use Rattle.rules.specs.Layouts.{Layout}
use Rattle.rules.specs.Bytes.{bytes_of, numbers, written}
use Rattle.rules.specs.Records.{length_in, kind_in, head_size, row_size, counts_in, row_count, rows_in, record_of}
use Rattle.rules.specs.Faults.{in_limits, head_fault, rows_fault, fault}
use Rattle.rules.proofs.WrittenBytes.{length_bytes, little_bytes, Fit, length_written, numbers_written, rows_written}

-- what can be written as a record: numbers that fit their bytes, and no more bytes than the length can say
pub record Writable (l : Layout) (counts : List ℕ) (rows : List (List ℕ)) : Type 0 where
  pub kind_two : length l.kind ≡ 2
  pub row_some : 0 < row_size l
  pub counts_fit : Fit l.count_sizes counts
  pub rows_fit : (r : List ℕ) → Memᴰ r rows → Fit l.field_sizes r
  pub bytes_fit : head_size l + length rows * row_size l < 65538

-- the rows' bytes; what stands after the length
table : Layout → List (List ℕ) → List ℕ
table l rows = flat_map (written l.field_sizes) rows

body : Layout → List ℕ → List (List ℕ) → List ℕ
body l counts rows = l.kind ++ (written l.count_sizes counts ++ table l rows)

record_parts : (l : Layout) (counts : List ℕ) (rows : List (List ℕ)) → record_of l counts rows ≡ bytes_of 2 (length (body l counts rows)) ++ body l counts rows
unfolding record_of body table
record_parts l counts rows = rw append_assoc

module _ (l : Layout) (counts : List ℕ) (rows : List (List ℕ)) (w : Writable l counts rows) where
  table_size : length (table l rows) ≡ length rows * row_size l
  unfolding table
  table_size = length_flat_map (written l.field_sizes) (row_size l) rows (λ r m. length_written l.field_sizes r (w.rows_fit r m))

  counts_size : length (written l.count_sizes counts) ≡ total l.count_sizes
  counts_size = length_written l.count_sizes counts w.counts_fit

  body_size : length (body l counts rows) + 2 ≡ head_size l + length rows * row_size l
  unfolding body
  body_size = simp (length-append, table_size, counts_size) (omega (arith, w.kind_two))

  pub record_size : length (record_of l counts rows) ≡ head_size l + length rows * row_size l
  record_size = rw (record_parts, length-append, length_bytes) (omega (arith, body_size))

  record_length : length_in (record_of l counts rows) + 2 ≡ length (record_of l counts rows)
  record_length = rw record_size (rw (record_parts, little_bytes 2 (length (body l counts rows)) (body l counts rows) (omega (arith, body_size, w.bytes_fit))) body_size)

  after_length : drop 2 (record_of l counts rows) ≡ body l counts rows
  after_length = rw record_parts (drop_at (bytes_of 2 (length (body l counts rows))) (body l counts rows) 2 (length_bytes 2 (length (body l counts rows))))

  after_kind : drop 4 (record_of l counts rows) ≡ written l.count_sizes counts ++ table l rows
  unfolding body
  after_kind = sym (drop-drop 2 2 (record_of l counts rows)) ∙ ap (drop 2) after_length ∙ drop_at l.kind (written l.count_sizes counts ++ table l rows) 2 w.kind_two

  after_counts : drop (head_size l) (record_of l counts rows) ≡ table l rows
  after_counts = sym (drop-drop (total l.count_sizes) 4 (record_of l counts rows)) ∙ ap (drop (total l.count_sizes)) after_kind
      ∙ drop_at (written l.count_sizes counts) (table l rows) (total l.count_sizes) counts_size

  record_kind : kind_in (record_of l counts rows) ≡ l.kind
  unfolding body
  record_kind = ap (take 2) after_length ∙ take_at l.kind (written l.count_sizes counts ++ table l rows) 2 w.kind_two

  pub record_counts : counts_in l (record_of l counts rows) ≡ counts
  record_counts = ap (numbers l.count_sizes) after_kind ∙ numbers_written l.count_sizes counts (table l rows) w.counts_fit

  rows_size : length (record_of l counts rows) - head_size l ≡ length rows * row_size l
  rows_size = omega (arith, record_size)

  pub record_row_count : row_count l (record_of l counts rows) ≡ length rows
  record_row_count = ap (λ n. n / row_size l) rows_size ∙ mul-div_left (length rows) w.row_some

  pub record_rows : rows_in l (record_of l counts rows) ≡ rows
  unfolding table
  record_rows = rw (record_row_count, after_counts) (rows_written l.field_sizes rows w.rows_fit)

  head_sound : in_limits counts l.limits ≡ true → length rows ≤ l.row_limit → head_fault l (record_of l counts rows) ≡ Ok tt
  unfolding head_fault
  head_sound limits few = rw (
    le-ltb (length (record_of l counts rows)) 4 (omega (arith, record_size)),
    eq-eqb (length_in (record_of l counts rows) + 2) (length (record_of l counts rows)) record_length,
    record_kind,
    with_self eqb (λ x. eq-eqb x x refl) l.kind,
    le-ltb (length (record_of l counts rows)) (head_size l) (omega (arith, record_size)),
    rows_size,
    mul-mod_left,
    record_counts,
    limits,
    mul-div_left (length rows) w.row_some,
    le-ltb l.row_limit (length rows) few,
  )

  pub record_sound : in_limits counts l.limits ≡ true → length rows ≤ l.row_limit → rows_fault l counts 0 [] rows ≡ Ok tt → fault l (record_of l counts rows) ≡ Ok tt
  unfolding fault
  record_sound limits few sound = rw (head_sound limits few, record_counts, record_rows) sound
