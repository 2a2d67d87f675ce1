-- Bytes read as numbers and written again are the same bytes; so a record without fault is the one written of its counts and rows.
-- Assumes nothing.
use mathlib.Core.Path.{◌≡◌, refl, sym, ap, ap₂, ◌∙◌}
use mathlib.Core.List.{List, [], ◌∷◌, ◌++◌, flat_map, append_assoc, Memᴰ}
use Prim.Native.Nat.{ℕ, zero, suc, ◌+◌, ◌-◌, ◌*◌, ◌/◌, ◌%◌, ◌≤◌, ◌<◌}
use native.Mathlib.Nat.{zero-mul, suc-mul, div-add-mod'}
use native.Mathlib.Omega.{arith}
use lib.ListN.{length, take, drop, length-drop, take-append-drop}
use lib.Seq.{take-add, take_all, drop-drop}
use Rattle.pairs.specs.Scans.{total}
use Rattle.std.specs.Prelude.{Ok}
use Rattle.rules.specs.Layouts.{Layout}
use Rattle.rules.specs.Bytes.{little, bytes_of, numbers, written}
use Rattle.rules.specs.Records.{rows_of, length_in, head_size, row_size, counts_in, row_count, rows_in, record_of}
use Rattle.rules.specs.Faults.{fault}
use Rattle.rules.specs.RoundTrips.{Bytes}
use Rattle.rules.proofs.Sound.{sound_head}

bytes_drop : (n : ℕ) (b : List ℕ) → Bytes b → Bytes (drop n b)
bytes_drop zero b each = each
bytes_drop (suc n) [] each = each
bytes_drop (suc n) (x ∷ b) each = bytes_drop n b (λ y m. each y (Memᴰ.tail m))

-- a number, numbers, and rows
bytes_little : (n : ℕ) (b : List ℕ) → Bytes b → n ≤ length b → bytes_of n (little n b) ≡ take n b
unfolding bytes_of little
bytes_little zero b each h = refl
bytes_little (suc n) [] each h = absurd (omega arith)
bytes_little (suc n) (x ∷ b) each h =
    let low : x < 256 = each x (Memᴰ.head refl) in
    let e₁ : (x + 256 * little n b) % 256 ≡ x = omega arith in
    let e₂ : (x + 256 * little n b) / 256 ≡ little n b = omega arith in
    rw (e₁, e₂, bytes_little n b (λ y m. each y (Memᴰ.tail m)) (omega arith))

written_numbers : (ws b : List ℕ) → Bytes b → total ws ≤ length b → written ws (numbers ws b) ≡ take (total ws) b
unfolding total numbers written
written_numbers [] b each h = refl
written_numbers (w ∷ ws) b each h =
    ap₂ ◌++◌ (bytes_little w b each (omega arith)) (written_numbers ws (drop w b) (bytes_drop w b each) (rw length-drop (omega arith)))
    ∙ sym (take-add w (total ws) b)

written_rows : (ws : List ℕ) (n : ℕ) (b : List ℕ) → Bytes b → n * total ws ≤ length b → flat_map (written ws) (rows_of ws n b) ≡ take (n * total ws) b
unfolding rows_of flat_map
written_rows ws zero b each h = rw zero-mul
written_rows ws (suc n) b each h =
    let h' : total ws + n * total ws ≤ length b = omega (arith, suc-mul n (total ws)) in
    let e : suc n * total ws ≡ total ws + n * total ws = omega (arith, suc-mul n (total ws)) in
    ap₂ ◌++◌ (written_numbers ws b each (omega arith)) (written_rows ws n (drop (total ws) b) (bytes_drop (total ws) b each) (rw length-drop (omega arith)))
    ∙ sym (take-add (total ws) (n * total ws) b) ∙ sym (ap (λ n. take n b) e)

-- a record without fault, of any kind
module _ (l : Layout) (b : List ℕ) (e : fault l b ≡ Ok tt) (each : Bytes b) where
  rest_size : row_count l b * row_size l ≡ length b - head_size l
  rest_size = let z = (sound_head l b e).whole_rows in omega (arith, div-add-mod' (length b - head_size l) (row_size l))

  rows_are : flat_map (written l.field_sizes) (rows_in l b) ≡ drop (head_size l) b
  rows_are =
      let size : length (drop (head_size l) b) ≡ row_count l b * row_size l = length-drop (head_size l) b ∙ sym rest_size in
      written_rows l.field_sizes (row_count l b) (drop (head_size l) b) (bytes_drop (head_size l) b each) (omega arith)
      ∙ take_all (row_count l b * row_size l) (drop (head_size l) b) (omega arith)

  counts_are : written l.count_sizes (counts_in l b) ≡ take (total l.count_sizes) (drop 4 b)
  counts_are =
      let there = (sound_head l b e).counts_there in
      written_numbers l.count_sizes (drop 4 b) (bytes_drop 4 b each) (rw length-drop (omega arith))

  -- what follows the length
  body_is : l.kind ++ written l.count_sizes (counts_in l b) ++ flat_map (written l.field_sizes) (rows_in l b) ≡ drop 2 b
  body_is =
      append_assoc l.kind _ _ ∙ ap₂ ◌++◌ (sym (sound_head l b e).own_kind)
      (ap₂ ◌++◌ counts_are (rows_are ∙ sym (drop-drop (total l.count_sizes) 4 b)) ∙ take-append-drop (total l.count_sizes) (drop 4 b) ∙ sym (drop-drop 2 2 b))
      ∙ take-append-drop 2 (drop 2 b)

  pub written_again : record_of l (counts_in l b) (rows_in l b) ≡ b
  unfolding record_of
  written_again =
      let whole = (sound_head l b e).whole_record in
      let size : length (drop 2 b) ≡ length_in b = length-drop 2 b ∙ omega arith in
      rw (body_is, size, bytes_little 2 b each (omega arith)) (take-append-drop 2 b)
