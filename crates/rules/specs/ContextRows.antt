-- Document 01, "Context: .. rows (state, i, v, u, o, next)": a context's rows by number, of a state, and by key. What is said of a record's bytes
-- is said of any bytes: of the rows that they would have.
-- Assumes nothing.
use Rattle.std.specs.Prelude.{◌≡◌, ℕ, suc, ◌+◌, List, [], map, leb, ltb, length, get_or, drop, if◌then◌else◌}
use Rattle.pairs.specs.declared.CtxState.{CtxState}
use Rattle.pairs.specs.Scans.{first_place, left}
use Rattle.pairs.specs.Lent.{leading}
use Rattle.rules.specs.declared.ContextRow.{ContextRow}
use Rattle.rules.specs.declared.StateRows.{StateRows}
use Rattle.rules.specs.Layouts.{context_layout}
use Rattle.rules.specs.Records.{rows_in}
use Rattle.rules.specs.Tables.{row_state, row_i, row_v, row_u, row_o, row_next, row_number}

-- row k; all 0 where there is none
abbrev pub context_row : List ℕ → ℕ → ContextRow
context_row b k =
    let r : List ℕ = get_or (rows_in context_layout b) k [] in
    record { state = record { 0 = row_state r }; i = row_i r; v = row_v r; u = row_u r; o = row_o r; next = record { 0 = row_next r } }

-- the first row from row `from` on whose state is a or above; where there is none, the number of rows, or `from` where that is beyond them
unfoldable pub first_row : List (List ℕ) → ℕ → ℕ → ℕ
first_row rows a from = from + first_place (λ r. leb a (row_state r)) (drop from rows)

-- "Keys rise strictly", and the state is the first field: the rows of a state stand together, before those of the next
abbrev pub state_rows : List ℕ → ℕ → ℕ → StateRows
state_rows b a from =
    let rows : List (List ℕ) = rows_in context_layout b in
    let first : ℕ = first_row rows a from in
    record { first = first; end = first_row rows (suc a) first }

-- the first row of each state, and behind them the number of rows where no row is of a state beyond
unfoldable pub first_rows : List (List ℕ) → ℕ → List ℕ
first_rows rows states = map (λ a. first_row rows a 0) (left 0 (suc states))

-- these at the front of an index; one that is too short stays whole
abbrev pub index_rows : List ℕ → ℕ → List ℕ → List ℕ
index_rows b states index = if ltb states (length index) then leading (first_rows (rows_in context_layout b) states) index else index

-- what the functions ensure, for every slice of bytes
abbrev pub ContextRowRead : List ℕ → ℕ → ContextRow → Type 0
ContextRowRead b k r = r ≡ context_row b k

abbrev pub StateRowsFound : List ℕ → CtxState → ℕ → StateRows → Type 0
StateRowsFound b a from r = r ≡ state_rows b a.0 from

abbrev pub RowFound : List ℕ → CtxState → ℕ → ℕ → ℕ → ℕ → ℕ → Type 0
RowFound b a i v u o r = r ≡ row_number (rows_in context_layout b) a.0 i v u o

abbrev pub RowsIndexed : List ℕ → ℕ → List ℕ → List ℕ → Type 0
RowsIndexed b states index index' = index' ≡ index_rows b states index
