-- What the look-ups need: an array of six reads as the numbers that it holds, the counts of a record by their names, the rows of a context by
-- number, and a search of them that passes one row more.
-- Assumes nothing.
use mathlib.Core.Path.{◌≡◌, refl, sym, ap, ◌∙◌}
use mathlib.Core.Bool.{Bool, true, false}
use mathlib.Core.List.{List, [], ◌∷◌}
use Prim.Native.Nat.{ℕ, zero, suc, max, ◌+◌, ◌-◌, ◌*◌, ◌≤◌, ◌<◌}
use native.Mathlib.Nat.{not-suc-le-zero, le_of_suc-le-suc, add-zero, zero-add, max-eq_left, max-eq_right}
use native.Mathlib.Numerals.{add-one}
use native.Mathlib.Omega.{arith}
use lib.Dec.{leb, ltb}
use lib.ListN.{length, get_or, take, drop, replicate, length-drop, drop_of_length-le, get_or-eq_default}
use lib.Seq.{drop-cons, drop-drop, get_or-take, get_or-drop}
use borrow.Author.Tests.{le-leb, lt-leb, ltb-true, ltb-false}
use Rattle.pairs.specs.Scans.{first_place, total}
use Rattle.rules.specs.declared.ContextRow.{ContextRow}
use Rattle.rules.specs.declared.Counts.{Counts}
use Rattle.rules.specs.declared.Kind.{Kind}
use Rattle.rules.specs.declared.Kind.TheVariants.{Context, Specification, Controller}
use Rattle.rules.specs.declared.StateRows.{StateRows}
use Rattle.rules.specs.Layouts.{context_layout, layout_of}
use Rattle.rules.specs.Bytes.{little, numbers}
use Rattle.rules.specs.Records.{rows_of, head_size, counts_in, row_count, rows_in}
use Rattle.rules.specs.Counts.{counts_of}
use Rattle.rules.specs.Tables.{row_state, has_key, row_number}
use Rattle.rules.specs.ContextRows.{first_row, context_row, state_rows}
use Rattle.records.specs.declared.layouts.Layout as code
use Rattle.records.specs.Inside.{Held, LaidOut}
use Rattle.records.proofs.KindLaws.{row_inside}
use Rattle.rules.proofs.ByPlace.{rows_at, rows_there}
use Rattle.records.proofs.NumberLaws.{at_held}
use Rattle.rules.proofs.NextTables.{get_d_replicate_same}

-- as many rows as are counted
length_rows : (ws : List ℕ) (n : ℕ) (b : List ℕ) → length (rows_of ws n b) ≡ n
unfolding rows_of
length_rows ws zero b = refl
length_rows ws (suc n) b = ap suc (length_rows ws n (drop (total ws) b))

pub held_at : (xs held : List ℕ) (j : ℕ) → Held xs held → get_or held j 0 ≡ get_or xs j 0
held_at xs held j h = ap (λ l. get_or l j 0) h.same_numbers ∙ at_held 6 xs j

-- ---- the first place from k on that passes a test
module _ {A : Type 0} (p : A → Bool) (l : List A) (k : ℕ) where
  module _ (d : A) (h : k < length l) where
    place_here : p (get_or l k d) ≡ true → k + first_place p (drop k l) ≡ k
    unfolding first_place
    place_here e = rw (drop-cons l k d h, e) (add-zero k)

    place_later : p (get_or l k d) ≡ false → k + 1 + first_place p (drop (k + 1) l) ≡ k + first_place p (drop k l)
    unfolding first_place
    place_later e = rw (drop-cons l k d h, e, add-one k) (omega arith)

  place_end : length l ≤ k → k + first_place p (drop k l) ≡ k
  unfolding first_place
  place_end h = rw (drop_of_length-le l h) (add-zero k)

-- ---- the counts of a record by their names
module _ (kind : Kind) (b c : List ℕ) (rows : ℕ) (h : Held (counts_in (layout_of kind) b) c) (counted : rows ≡ row_count (layout_of kind) b) where
  pub context_counts_lem : kind ≡ Context
      → ◌≡◌ {A = Counts} (record { i = get_or c 0 0; o = get_or c 1 0; u = get_or c 2 0; v = get_or c 3 0; states = get_or c 4 0; rows = rows }) (counts_of kind b)
  context_counts_lem e = rw (held_at _ c 0 h, held_at _ c 1 h, held_at _ c 2 h, held_at _ c 3 h, held_at _ c 4 h, counted, e)

  pub specification_counts_lem : kind ≡ Specification
      → ◌≡◌ {A = Counts} (record { i = get_or c 0 0; o = get_or c 1 0; u = 0; v = 0; states = get_or c 2 0; rows = rows }) (counts_of kind b)
  specification_counts_lem e = rw (held_at _ c 0 h, held_at _ c 1 h, held_at _ c 2 h, counted, e)

  pub controller_counts_lem : kind ≡ Controller
      → ◌≡◌ {A = Counts} (record { i = 0; o = 0; u = get_or c 0 0; v = get_or c 1 0; states = get_or c 2 0; rows = rows }) (counts_of kind b)
  controller_counts_lem e = rw (held_at _ c 0 h, held_at _ c 1 h, held_at _ c 2 h, counted, e)

-- ---- row k of a context: its numbers are its bytes
bytes_read : (n : ℕ) (xs : List ℕ) → n ≤ length xs → numbers (replicate n 1) xs ≡ take n xs
unfolding numbers little
bytes_read zero xs h = refl
bytes_read (suc n) [] h = absurd (not-suc-le-zero h)
bytes_read (suc n) (x ∷ xs) h = let e : x + 0 ≡ x = add-zero x in rw (e, bytes_read n xs (le_of_suc-le-suc h))

module _ (b : List ℕ) (k : ℕ) (row : List ℕ) where
  abbrev row_read : ContextRow
  row_read = record { state = record { 0 = get_or row 0 0 }; i = get_or row 1 0; v = get_or row 2 0; u = get_or row 3 0; o = get_or row 4 0; next = record { 0 = get_or row 5 0 } }

  as_row : ((j : ℕ) → get_or row j 0 ≡ get_or (get_or (rows_in context_layout b) k []) j 0) → row_read ≡ context_row b k
  as_row e = rw (e 0, e 1, e 2, e 3, e 4, e 5)

  pub row_none : (n : ℕ) → n ≡ row_count context_layout b → n ≤ k → row ≡ replicate 6 0 → row_read ≡ context_row b k
  row_none n counted h e =
      let less : length (rows_in context_layout b) ≤ k = omega (arith, rows_there context_layout b) in
      as_row (λ j. rw (e, get_or-eq_default (rows_in context_layout b) [] less) (get_d_replicate_same 6 j 0))

module _ (s : code.Layout) (known : LaidOut context_layout s) (b : List ℕ) (k : ℕ) where
  module _ (h : k < row_count context_layout b) where
    within : s.head_size + k * s.row_size + 6 ≤ length b
    unfolding context_layout total
    within = omega (arith, row_inside context_layout s known b k h, known.row_is)

    here : get_or (rows_in context_layout b) k [] ≡ numbers (replicate 6 1) (drop (s.head_size + k * s.row_size) b)
    unfolding context_layout
    here = rw (rows_at (replicate 6 1) (row_count context_layout b) k (drop (head_size context_layout) b) h, drop-drop, known.head_is, known.row_is)

    row_bytes : get_or (rows_in context_layout b) k [] ≡ take 6 (drop (s.head_size + k * s.row_size) b)
    row_bytes = here ∙ bytes_read 6 (drop (s.head_size + k * s.row_size) b) (rw length-drop (omega (arith, within)))

    pub state_read : (x : ℕ) → x ≡ get_or b (s.head_size + k * s.row_size) 0 → x ≡ row_state (get_or (rows_in context_layout b) k [])
    state_read x e =
        e ∙ sym (rw (row_bytes, get_or-take 6 (drop (s.head_size + k * s.row_size) b) 0 0 (omega arith), get_or-drop) (ap (λ j. get_or b j 0) (add-zero (s.head_size + k * s.row_size))))

  module _ (n : ℕ) (counted : n ≡ row_count context_layout b) (more : k < n) where
    pub row_end : s.head_size + k * s.row_size + 6 ≤ length b
    row_end = within (rw counted at more)

    pub row_there : (row : List ℕ) (end : ℕ) → end ≡ s.head_size + k * s.row_size + 6 → row ≡ take (end - (s.head_size + k * s.row_size)) (drop (s.head_size + k * s.row_size) b) → row_read b k row ≡ context_row b k
    row_there row end e r =
        let six : end - (s.head_size + k * s.row_size) ≡ 6 = omega (arith, e) in
        as_row b k row (λ j. rw (r, six, row_bytes (rw counted at more)))

-- ---- the first row of a state or above: the search from row k on gives what the search from row `from` on gives
pub record Passed (rows : List (List ℕ)) (a from n k : ℕ) : Type 0 where
  pub counted : n ≡ length rows
  pub left : first_row rows a k ≡ first_row rows a from

pub passed_none : (b : List ℕ) (a from n : ℕ) → n ≡ row_count context_layout b → Passed (rows_in context_layout b) a from n from
passed_none b a from n e = record { counted = e ∙ sym (rows_there context_layout b); left = refl }

module _ (rows : List (List ℕ)) (a from n k : ℕ) (p : Passed rows a from n k) where
  module _ (s : ℕ) (state : s ≡ row_state (get_or rows k [])) (more : k < n) where
    inside : k < length rows
    inside = rw p.counted at more

    pub first_here : a ≤ s → k ≡ first_row rows a from
    unfolding first_row
    first_here h = sym (place_here (λ r. leb a (row_state r)) rows k [] inside (rw (← state) (le-leb a s h))) ∙ p.left

    pub passed_more : s < a → Passed rows a from n (k + 1)
    unfolding first_row
    passed_more h = record {
      counted = p.counted;
      left = place_later (λ r. leb a (row_state r)) rows k [] inside (rw (← state) (lt-leb a s h)) ∙ p.left;
    }

  pub first_end : n ≤ k → (from ≤ n → k ≤ n) → (end : ℕ) → end ≡ max n from → end ≡ first_row rows a from
  unfolding first_row
  first_end h few end e = go (ltb n from) refl
    where
      stopped : (j : ℕ) → n ≤ j → j ≡ first_row rows a j
      stopped j g = sym (place_end (λ r. leb a (row_state r)) rows j (rw p.counted at g))

      go : (t : Bool) → ltb n from ≡ t → end ≡ first_row rows a from
      go true q = let g : n < from = ltb-true n from q in e ∙ rw (max-eq_right {n = n} {m = from} (omega arith)) (stopped from (omega arith))
      go false q =
          let g : from ≤ n = ltb-false n from q in
          let l : max n from ≡ n = max-eq_left g in
          let m : n ≡ k = omega (arith, few g) in
          e ∙ l ∙ m ∙ stopped k h ∙ p.left

pub rows_found : (b : List ℕ) (a from first end : ℕ) → first ≡ first_row (rows_in context_layout b) a from → end ≡ first_row (rows_in context_layout b) (a + 1) first
    → ◌≡◌ {A = StateRows} (record { first = first; end = end }) (state_rows b a from)
rows_found b a from first end f e = rw (e, f, add-one)

-- ---- the row of a key: no row before row k has it
pub record Sought (b : List ℕ) (a i v u o n k : ℕ) : Type 0 where
  pub within : k ≤ n
  pub left : k + first_place (has_key a i v u o) (drop k (rows_in context_layout b)) ≡ row_number (rows_in context_layout b) a i v u o

module _ (b : List ℕ) (a i v u o n : ℕ) (counted : n ≡ row_count context_layout b) where
  pub sought_none : Sought b a i v u o n 0
  unfolding row_number
  sought_none = record { within = omega arith; left = zero-add _ }

  module _ (k : ℕ) (s : Sought b a i v u o n k) where
    module _ (more : k < n) (row : List ℕ) (h : Held (get_or (rows_in context_layout b) k []) row) (t : Bool) (tested : t ≡ has_key a i v u o row) where
      key_inside : k < length (rows_in context_layout b)
      key_inside = omega (arith, rows_there context_layout b)

      of_row : has_key a i v u o (get_or (rows_in context_layout b) k []) ≡ t
      of_row = sym (tested ∙ rw (held_at _ row 0 h, held_at _ row 1 h, held_at _ row 2 h, held_at _ row 3 h, held_at _ row 4 h))

      pub key_here : t ≡ true → k ≡ row_number (rows_in context_layout b) a i v u o
      key_here e = sym (place_here (has_key a i v u o) (rows_in context_layout b) k [] key_inside (of_row ∙ e)) ∙ s.left

      pub key_later : t ≡ false → Sought b a i v u o n (k + 1)
      key_later e = record {
        within = omega arith;
        left = place_later (has_key a i v u o) (rows_in context_layout b) k [] key_inside (of_row ∙ e) ∙ s.left;
      }

    pub key_end : n ≤ k → n ≡ row_number (rows_in context_layout b) a i v u o
    key_end h =
        let e : n ≡ k = omega (arith, s.within) in
        e ∙ sym (place_end (has_key a i v u o) (rows_in context_layout b) k (omega (arith, rows_there context_layout b))) ∙ s.left
