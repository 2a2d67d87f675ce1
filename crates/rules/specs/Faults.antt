-- Document 01, "Reply numbers", 1 to 7: what reading a record finds, in the order "1 to 4, then rows, where the first faulty row decides and
-- within it 5, 6, 7".
-- Assumes nothing.
use Rattle.std.specs.Prelude.{◌≡◌, ℕ, suc, ◌+◌, ◌-◌, ◌%◌, Bool, not, ◌&&◌, ◌||◌, List, [], ◌∷◌, leb, ltb, eqb, length, get_or, take, Result, Ok, Err, is_ok, if◌then◌else◌}
use Rattle.pairs.specs.Scans.{all_with, same, less}
use Rattle.rules.specs.declared.Fault.{Fault}
use Rattle.rules.specs.declared.Fault.TheVariants.{Length, Kind, Cut, Limit, Code, EqualKey, LowerKey}
use Rattle.rules.specs.declared.Kind as kinds
use Rattle.rules.specs.Layouts.{Layout, layout_of}
use Rattle.rules.specs.Records.{length_in, kind_in, head_size, row_size, counts_in, row_count, rows_in}

-- the numbers of the table; a success is 0, which is no fault's
abbrev pub fault_number : Fault → ℕ
fault_number Length = 1
fault_number Kind = 2
fault_number Cut = 3
fault_number Limit = 4
fault_number (Code row) = 5
fault_number (EqualKey row) = 6
fault_number (LowerKey row) = 7

-- "row (from 0; for 5 to 7, else 0)"
abbrev pub fault_row : Fault → ℕ
fault_row Length = 0
fault_row Kind = 0
fault_row Cut = 0
fault_row Limit = 0
fault_row (Code row) = row
fault_row (EqualKey row) = row
fault_row (LowerKey row) = row

-- what reading finds: nothing, or the fault that decides
abbrev pub Finding : Type 0
Finding = Result Unit Fault

abbrev pub is_sound : Finding → Bool
is_sound f = is_ok f

-- each count is at least 1 and at most its limit
abbrev pub in_limits : List ℕ → List ℕ → Bool
in_limits counts limits = all_with (λ x l. leb 1 x && leb x l) counts limits

-- what the function ensures that tests them: of so many numbers as the kind has counts
abbrev pub Limited : kinds.Kind → List ℕ → Bool → Type 0
Limited kind counts r = r ≡ in_limits (take (length (layout_of kind).limits) counts) (layout_of kind).limits

-- each field is below its count, which stands at the place given for it
abbrev pub fields_below : List ℕ → List ℕ → List ℕ → Bool
fields_below counts row places = all_with (λ x k. ltb x (get_or counts k 0)) row places

module _ (l : Layout) where
  -- 1 "fewer than 4 bytes, or the length is not the bytes that follow it"; 2 "kind is not the one expected"; 3 "counts cut short, or a broken
  -- last row"; 4 "a count or the number of rows outside its limit"
  unfoldable pub head_fault : List ℕ → Finding
  head_fault b =
      if ltb (length b) 4 || not (eqb (length_in b + 2) (length b)) then Err Length else
      if not (same (kind_in b) l.kind) then Err Kind else
      if ltb (length b) (head_size l) || not (eqb ((length b - head_size l) % row_size l) 0) then Err Cut else
      if not (in_limits (counts_in l b) l.limits) || ltb l.row_limit (row_count l b) then Err Limit else
      Ok tt

  -- "A row's key is all its fields but next."
  abbrev pub key_of : List ℕ → List ℕ
  key_of row = take l.key_size row

  -- of row k, which comes after the key `before` (no number: before the first row): 5 "a code or state not below its count"; 6 "key equal to
  -- the row before"; 7 "key below the row before"
  unfoldable pub row_fault : List ℕ → ℕ → List ℕ → List ℕ → Finding
  row_fault counts k before row =
      if not (fields_below counts row l.below) then Err (Code k) else
      if same (key_of row) before then Err (EqualKey k) else
      if less (key_of row) before then Err (LowerKey k) else
      Ok tt

  -- "the first faulty row decides": the rows from row k on
  unfoldable pub rows_fault : List ℕ → ℕ → List ℕ → List (List ℕ) → Finding
  rows_fault counts k before [] = Ok tt
  rows_fault counts k before (row ∷ rows) =
      let f : Finding = row_fault counts k before row in
      let rest : Finding = rows_fault counts (suc k) (key_of row) rows in
      if is_sound f then rest else f

  -- what is wrong with a record
  unfoldable pub fault : List ℕ → Finding
  fault b =
      let f : Finding = head_fault b in
      let rows : Finding = rows_fault (counts_in l b) 0 [] (rows_in l b) in
      if is_sound f then rows else f
