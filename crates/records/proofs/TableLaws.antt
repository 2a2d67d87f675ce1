-- What the functions need that fill next tables: rows entered one after the other.
-- Assumes nothing.
use mathlib.Core.Path.{◌≡◌, refl, sym, ap, ◌∙◌}
use mathlib.Core.List.{List, [], ◌++◌, foldl}
use Prim.Native.Nat.{ℕ, ◌+◌, ◌*◌, ◌^◌, ◌≤◌, ◌<◌}
use native.Mathlib.Nat.{mul-le-mul}
use native.Mathlib.Numerals.{add-one}
use native.Mathlib.Omega.{arith}
use lib.ListN.{length, get_or, take, drop, replicate, length-replicate, length-set, drop_of_length-le}
use lib.Seq.{length-take-le, drop-cons, set_out, take_at, drop_at, drop-drop, get_or-drop}
use borrow.Author.Tests.{le-leb, lt-leb}
use Rattle.pairs.specs.Lent.{filled}
use Rattle.rules.specs.declared.Counts.{Counts}
use Rattle.rules.specs.declared.Kind.TheVariants.{Specification}
use Rattle.rules.specs.Limits.{absent}
use Rattle.rules.specs.Layouts.{Layout, specification_layout}
use Rattle.rules.specs.Bytes.{little, numbers}
use Rattle.rules.specs.Records.{row_count, rows_in}
use Rattle.rules.specs.Counts.{counts_of}
use Rattle.rules.specs.NextTables.{step_place, with_row, table_of}
use Rattle.rules.specs.Tables.{specification_table, fill_specification}
use Rattle.records.specs.Inside.{Small, Held, led_by}
use Rattle.records.proofs.NumberLaws.{little_one}
use Rattle.records.proofs.LookupLaws.{held_at}
use Rattle.rules.proofs.ByPlace.{rows_there}
use Rattle.rules.proofs.NextTables.{table_length}

-- ---- the place of a step fits
block_few : (m n : ℕ) → m < 65536 → n < 65536 → m * n ≤ 4294836225
block_few m n hm hn = mul-le-mul {n₁ = m} {m₁ = n} {n₂ = 65535} {m₂ = 65535} (omega arith) (omega arith)

pub block_fits : (m n : ℕ) → m < 65536 → n < 65536 → m * n < 2 ^ 64
block_fits m n hm hn = omega (arith, block_few m n hm hn)

blocks_few : (s m n : ℕ) → s < 65536 → m < 65536 → n < 65536 → s * (m * n) ≤ 281462092005375
blocks_few s m n hs hm hn = mul-le-mul {n₁ = s} {m₁ = m * n} {n₂ = 65535} {m₂ = 4294836225} (omega arith) (block_few m n hm hn)

pub blocks_fit : (s m n : ℕ) → s < 65536 → m < 65536 → n < 65536 → s * (m * n) < 2 ^ 64
blocks_fit s m n hs hm hn = omega (arith, blocks_few s m n hs hm hn)

module _ (row : List ℕ) (m n : ℕ) (small : Small row) (hm : m < 65536) (hn : n < 65536) where
  pub state_fits : get_or row 0 0 * (m * n) < 2 ^ 64
  state_fits = blocks_fit (get_or row 0 0) m n (small 0) hm hn

  pub x_fits : get_or row 1 0 * n < 2 ^ 64
  x_fits = block_fits (get_or row 1 0) n (small 1) hn

  pub step_fits : get_or row 1 0 * n + get_or row 2 0 < 2 ^ 64
  step_fits = omega (arith, block_few (get_or row 1 0) n (small 1) hn, small 2)

  pub place_fits : step_place m n (get_or row 0 0) (get_or row 1 0) (get_or row 2 0) < 2 ^ 64
  place_fits = omega (arith, blocks_few (get_or row 0 0) m n (small 0) hm hn, block_few (get_or row 1 0) n (small 1) hn, small 2)

pub next_fits : (row : List ℕ) → Small row → get_or row 3 0 < 2 ^ 16
next_fits row small = small 3

pub step_beyond : (m n : ℕ) (table row : List ℕ) → length table ≤ step_place m n (get_or row 0 0) (get_or row 1 0) (get_or row 2 0) → table ≡ with_row m n table row
step_beyond m n table row h = sym (set_out table _ (get_or row 3 0) h)

-- ---- rows entered one after the other: those from row k on give what all of them give
pub record Entered (m n : ℕ) (rows : List (List ℕ)) (count : ℕ) (table₀ table : List ℕ) (k : ℕ) : Type 0 where
  pub counted : count ≡ length rows
  pub left : foldl (with_row m n) table (drop k rows) ≡ foldl (with_row m n) table₀ rows
  pub same_size : length table ≡ length table₀

pub entered_none : (m n : ℕ) (l : Layout) (b : List ℕ) (count : ℕ) (table : List ℕ) → count ≡ row_count l b → Entered m n (rows_in l b) count table table 0
entered_none m n l b count table e = record { counted = e ∙ sym (rows_there l b); left = refl; same_size = refl }

module _ (m n : ℕ) (rows : List (List ℕ)) (count : ℕ) (table₀ table : List ℕ) (k : ℕ) (e : Entered m n rows count table₀ table k) where
  pub entered_more : (row table' : List ℕ) → k < count → Held (get_or rows k []) row → table' ≡ with_row m n table row → Entered m n rows count table₀ table' (k + 1)
  entered_more row table' more h put =
      let inside : k < length rows = rw e.counted at more in
      let same : table' ≡ with_row m n table (get_or rows k []) = put ∙ rw (held_at _ row 0 h, held_at _ row 1 h, held_at _ row 2 h, held_at _ row 3 h) in
      record {
        counted = e.counted;
        left = rw (same, add-one) (rw (drop-cons rows k [] inside) at e.left);
        same_size = rw (same, length-set) e.same_size;
      }

  pub entered_all : count ≤ k → table ≡ foldl (with_row m n) table₀ rows
  entered_all h = rw (drop_of_length-le rows (rw e.counted at h)) at e.left

-- ---- the table at the front of lent numbers
pub front_count : (size : ℕ) (table : List ℕ) → size ≤ length table → size ≡ length (take size table)
front_count size table h = sym (length-take-le size table h)

module _ (size : ℕ) (table front : List ℕ) (room : size ≤ length table) (kept : length front ≡ length (take size table)) where
  same_front : length front ≡ size
  same_front = kept ∙ length-take-le size table room

  pub led_count : size ≡ length (take size (front ++ drop size table))
  led_count = sym (rw (take_at front (drop size table) size same_front) same_front)

module _ (m n states : ℕ) (rows : List (List ℕ)) (table : List ℕ) where
  abbrev size : ℕ
  size = states * (m * n)

  pub table_led : (front next : List ℕ) → size ≤ length table → front ≡ replicate (length (take size table)) absent
      → next ≡ foldl (with_row m n) (take size (front ++ drop size table)) rows → next ++ drop size (front ++ drop size table) ≡ led_by (table_of m n states rows) table
  unfolding table_of
  table_led front next room blank filled =
      let long : length front ≡ size = ap length blank ∙ length-replicate _ absent ∙ length-take-le size table room in
      let same : front ≡ replicate size absent = blank ∙ rw (length-take-le size table room) in
      let is : next ≡ table_of m n states rows = filled ∙ rw (take_at front (drop size table) size long, same) in
      rw (table_length m n states rows, le-leb size (length table) room, drop_at front (drop size table) size long, is)

  pub table_left : length table < size → table ≡ led_by (table_of m n states rows) table
  table_left h = rw (table_length m n states rows, lt-leb size (length table) h)

-- ---- the counts of a specification are bytes
module _ (b : List ℕ) (r : Counts) (read : r ≡ counts_of Specification b) where
  pub counts_small : ((i : ℕ) → get_or b i 0 < 256) → (r.i < 65536) × (r.o < 65536) × (r.states < 65536)
  unfolding specification_layout numbers
  counts_small bytes = (rw read (small 4), rw (read, drop-drop) (small 5), rw (read, drop-drop 1 1 (drop 4 b), drop-drop) (small 6))
    where
      small : (at : ℕ) → little 1 (drop at b) < 65536
      small at = rw (little_one, get_or-drop) (omega (arith, bytes (at + 0)))

  pub specification_filled : (table table' : List ℕ) → table' ≡ led_by (table_of r.i r.o r.states (rows_in specification_layout b)) table → table' ≡ fill_specification b table
  unfolding fill_specification specification_table
  specification_filled table table' e = e ∙ rw read
