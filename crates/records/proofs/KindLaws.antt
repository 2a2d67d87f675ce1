-- What the functions need that go by the layout of a kind of record.
-- Assumes nothing.
use mathlib.Core.Path.{◌≡◌, sym, ap}
use mathlib.Core.Bool.{◌&&◌}
use mathlib.Core.List.{List, []}
use borrow.Author.Rules.{rules}
use Prim.Native.Nat.{ℕ, suc, ◌+◌, ◌-◌, ◌*◌, ◌/◌, ◌^◌, ◌≤◌, ◌<◌}
use native.Mathlib.Nat.{zero-div, suc-mul, le-div_iff_mul-le}
use native.Mathlib.Omega.{arith}
use lib.Dec.{T, leb, leb→le}
use lib.ListN.{length, get_or, take, drop}
use lib.Seq.{drop-drop}
use Rattle.rules.specs.declared.Kind.{Kind}
use Rattle.rules.specs.declared.Kind.TheVariants.{Context, Specification, Controller}
use Rattle.records.specs.declared.layouts.Layout as code
use Rattle.rules.specs.Layouts.{Layout, context_layout, specification_layout, controller_layout, layout_of}
use Rattle.rules.specs.Bytes.{numbers}
use Rattle.rules.specs.Records.{head_size, counts_in, row_count, rows_in}
use Rattle.rules.proofs.ByPlace.{rows_at}
use Rattle.pairs.specs.Scans.{all, total}
use Rattle.records.proofs.NumberLaws.{numbers_alone}
use Rattle.records.specs.Inside.{Held, Sizes, LaidOut}

-- what the three layouts have in common
pub record Laid (l : Layout) : Type 0 where
  pub key_some : 1 ≤ l.key_size
  pub key_within : l.key_size ≤ length l.field_sizes
  pub limit_each : length l.limits ≡ length l.count_sizes
  pub few_fields : length l.field_sizes ≤ 6
  pub few_counts : length l.count_sizes ≤ 6
  pub below_each : length l.below ≡ length l.field_sizes
  pub rows_few : l.row_limit < 65536

pub laid : (kind : Kind) → Laid (layout_of kind)
unfolding context_layout specification_layout controller_layout
laid Context = search rules
laid Specification = search rules
laid Controller = search rules

-- ---- counts and rows of a record of any length
module _ (l : Layout) (s : code.Layout) (known : LaidOut l s) (b : List ℕ) where
  pub no_rows : length b < s.head_size → 0 ≡ row_count l b
  no_rows h = let e : length b - head_size l ≡ 0 = omega (arith, known.head_is) in sym (rw (e, zero-div))

  pub rows_counted : (length b - s.head_size) / s.row_size ≡ row_count l b
  rows_counted = rw (known.head_is, known.row_is)

  -- numbers of the sizes of the counts, and of those of a row
  pub counts_held : (held : List ℕ) → Held (numbers s.count_sizes.now (drop 4 b)) held → Held (counts_in l b) held
  counts_held held h = rw (← known.count_sizes_are) h

  module _ (k : ℕ) (h : k < row_count l b) where
    row_ends : suc k * s.row_size ≤ length b - s.head_size
    row_ends = (le-div_iff_mul-le known.row_some).0 (rw rows_counted h)

    pub row_inside : s.head_size + (k * s.row_size + s.row_size) ≤ length b
    row_inside = omega (arith, rw (suc-mul k s.row_size) at row_ends, known.row_some)

    pub row_offset_fits : length b < 2 ^ 64 → k * s.row_size < 2 ^ 64
    row_offset_fits f = omega (arith, row_inside)

    pub row_start_fits : length b < 2 ^ 64 → s.head_size + k * s.row_size < 2 ^ 64
    row_start_fits f = omega (arith, row_inside)

    pub row_held : (held : List ℕ) → Held (numbers s.field_sizes.now (drop (s.head_size + k * s.row_size) b)) held → Held (get_or (rows_in l b) k []) held
    row_held held e = rw (rows_at l.field_sizes (row_count l b) k (drop (head_size l) b) h, drop-drop, ← known.head_is, ← known.row_is, ← known.field_sizes_are) e

    pub row_bounds : (s.head_size + k * s.row_size ≤ s.head_size + k * s.row_size + s.row_size) × (s.head_size + k * s.row_size + s.row_size ≤ length b)
    row_bounds = (omega arith, omega (arith, row_inside))

    -- the fields are read from the bytes of the row alone
    pub row_alone : (held row : List ℕ) (end : ℕ) → end ≡ s.head_size + k * s.row_size + s.row_size
        → row ≡ take (end - (s.head_size + k * s.row_size)) (drop (s.head_size + k * s.row_size) b)
        → Held (numbers s.field_sizes.now row) held → Held (get_or (rows_in l b) k []) held
    row_alone held row end e r h =
        let size : end - (s.head_size + k * s.row_size) ≡ total s.field_sizes.now = omega (arith, e, known.row_is, ap total known.field_sizes_are) in
        row_held held (rw (r, size, numbers_alone s.field_sizes.now (drop (s.head_size + k * s.row_size) b)) at h)

-- sizes that are written out
pub sizes : (ws : List ℕ) → T (leb (length ws) 6) → T (all (λ w. leb 1 w && leb w 2) ws) → Sizes ws
sizes ws few each = record { few = leb→le (length ws) 6 few; each = each }
