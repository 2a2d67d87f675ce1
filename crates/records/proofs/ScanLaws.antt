-- What the scan of a record's rows needs: the fault of the rows that are left is that of all.
-- Assumes nothing.
use Rattle.std.specs.Prelude.{Ok, Err, if◌then◌else◌}
use mathlib.Core.Path.{◌≡◌, refl, sym, ◌∙◌}
use mathlib.Core.List.{List, [], ◌∷◌}
use Prim.Native.Nat.{ℕ, suc, ◌+◌, ◌≤◌, ◌<◌}
use native.Mathlib.Numerals.{add-one}
use native.Mathlib.Omega.{arith}
use lib.ListN.{length, get_or, drop, drop_of_length-le}
use lib.Seq.{drop-cons}
use borrow.Author.Tests.{ne_eqb}
use Rattle.pairs.specs.Scans.{all_with}
use Rattle.pairs.proofs.Lists.{at_mem}
use Rattle.rules.specs.declared.Fault.{Fault}
use Rattle.rules.specs.declared.Kind.{Kind}
use Rattle.rules.specs.Layouts.{Layout, layout_of}
use Rattle.rules.specs.Records.{head_size, counts_in, row_count, rows_in}
use Rattle.rules.specs.Faults.{Finding, is_sound, fields_below, key_of, row_fault, rows_fault}
use Rattle.records.specs.Inside.{padded, Held, fields_of, key_before}
use Rattle.records.proofs.NumberLaws.{front_held, at_held}
use Rattle.rules.proofs.ByPlace.{rows_there}
use Rattle.rules.proofs.Sound.{rows_length}

-- counts enter a row's test by their places alone
fields_alike : (counts counts' : List ℕ) → ((k : ℕ) → get_or counts k 0 ≡ get_or counts' k 0) → (row places : List ℕ) → fields_below counts row places ≡ fields_below counts' row places
unfolding all_with
fields_alike counts counts' alike [] [] = refl
fields_alike counts counts' alike [] (y ∷ ys) = refl
fields_alike counts counts' alike (x ∷ xs) [] = refl
fields_alike counts counts' alike (x ∷ xs) (y ∷ ys) = rw (alike y, fields_alike counts counts' alike xs ys)

module _ (kind : Kind) (b : List ℕ) where
  abbrev l : Layout
  l = layout_of kind

  abbrev rows : List (List ℕ)
  rows = rows_in l b

  -- the rows before row k have no fault, and the last of them is in the array `before`
  pub record Passed (k : ℕ) (before : List ℕ) : Type 0 where
    pub within : k ≤ row_count l b
    pub left : rows_fault l (counts_in l b) k (key_before l k before) (drop k rows) ≡ rows_fault l (counts_in l b) 0 [] rows

  pub none_passed : (before : List ℕ) → Passed 0 before
  none_passed before = record { within = omega arith; left = refl }

  module _ (k : ℕ) (before : List ℕ) (passed : Passed k before) where
    pub all_passed : (n : ℕ) → n ≡ row_count l b → n ≤ k → Ok tt ≡ rows_fault l (counts_in l b) 0 [] rows
    unfolding rows_fault
    all_passed n e h =
        let over : length rows ≤ k = rw (rows_there l b) (omega arith) in
        sym (rw (drop_of_length-le rows over)) ∙ passed.left

    module _ (n : ℕ) (counted : n ≡ row_count l b) (more : k < n) (counts row : List ℕ) (counts_held : Held (counts_in l b) counts) (row_held : Held (get_or rows k []) row) where
      inside : k < length rows
      inside = rw (rows_there l b) (omega arith)

      row_is : fields_of l row ≡ get_or rows k []
      row_is =
          let size : length (get_or rows k []) ≡ length l.field_sizes = rows_length l.field_sizes (row_count l b) (drop (head_size l) b) (get_or rows k []) (at_mem rows k [] inside) in
          rw (row_held.same_numbers, ← size) (front_held 6 (get_or rows k []))

      module _ (f : Finding) (tested : f ≡ row_fault l counts k (key_before l k before) (fields_of l row)) where
        of_row : row_fault l (counts_in l b) k (key_before l k before) (get_or rows k []) ≡ f
        unfolding row_fault
        of_row = sym (tested ∙ rw (row_is, counts_held.same_numbers, fields_alike (padded 6 (counts_in l b)) (counts_in l b) (at_held 6 (counts_in l b)) (get_or rows k []) l.below))

        met : rows_fault l (counts_in l b) 0 [] rows ≡ (if is_sound f then rows_fault l (counts_in l b) (suc k) (key_of l (get_or rows k [])) (drop (suc k) rows) else f)
        unfolding rows_fault
        met = sym passed.left ∙ rw (drop-cons rows k [] inside, of_row)

      pub fault_found : (x : Fault) → Err x ≡ row_fault l counts k (key_before l k before) (fields_of l row) → Err x ≡ rows_fault l (counts_in l b) 0 [] rows
      fault_found x e = sym (met (Err x) e)

      pub one_passed : Ok tt ≡ row_fault l counts k (key_before l k before) (fields_of l row) → Passed (k + 1) row
      one_passed e = record {
        within = omega arith;
        left = sym (met (Ok tt) e ∙ rw (ne_eqb (k + 1) 0 (λ z. omega arith), row_is, add-one));
      }
