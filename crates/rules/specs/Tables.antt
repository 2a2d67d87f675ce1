-- Document 01, "Signals and tables": the two tables of a skid, as they were read.
-- Assumes nothing.
use Rattle.std.specs.Prelude.{◌≡◌, ℕ, ◌+◌, ◌*◌, Bool, ◌&&◌, List, [], leb, ltb, eqb, length, get_or, if◌then◌else◌}
use Rattle.std.proofs.Math.Option.{Option, none, some}
use Rattle.pairs.specs.Scans.{first_place, left}
use Rattle.pairs.specs.Sets.{specification_of}
use Rattle.pairs.specs.Lent.{leading}
use Rattle.rules.specs.declared.Counts.{Counts}
use Rattle.rules.specs.Limits.{absent}
use Rattle.rules.specs.Layouts.{context_layout, specification_layout, controller_layout}
use Rattle.rules.specs.Records.{rows_in}
use Rattle.rules.specs.Counts.{context_counts, specification_counts, controller_counts}
use Rattle.rules.specs.NextTables.{step_place, there, table_of}

-- the counts I, O, U, V, the context's states, the specification's states; the context's rows; the specification as a next table
pub record Skid : Type 0 where
  pub n_i : ℕ
  pub n_o : ℕ
  pub n_u : ℕ
  pub n_v : ℕ
  pub n_a : ℕ
  pub n_c : ℕ
  pub context : List (List ℕ)
  pub specification : List ℕ

-- a context row is "(state, i, v, u, o, next)"
abbrev pub row_state : List ℕ → ℕ
row_state r = get_or r 0 0

abbrev pub row_i : List ℕ → ℕ
row_i r = get_or r 1 0

abbrev pub row_v : List ℕ → ℕ
row_v r = get_or r 2 0

abbrev pub row_u : List ℕ → ℕ
row_u r = get_or r 3 0

abbrev pub row_o : List ℕ → ℕ
row_o r = get_or r 4 0

abbrev pub row_next : List ℕ → ℕ
row_next r = get_or r 5 0

-- a specification record without fault, as a next table; and a controller record
unfoldable pub specification_table : List ℕ → List ℕ
specification_table b =
    let c : Counts = specification_counts b in
    table_of c.i c.o c.states (rows_in specification_layout b)

unfoldable pub controller_table : List ℕ → List ℕ
controller_table b =
    let c : Counts = controller_counts b in
    table_of c.u c.v c.states (rows_in controller_layout b)

-- the same at the front of lent numbers: what is behind them stays, and all of them where they are too few
unfoldable pub fill_specification : List ℕ → List ℕ → List ℕ
fill_specification b table =
    let next : List ℕ = specification_table b in
    if leb (length next) (length table) then leading next table else table

-- what the function ensures, for every slice of bytes and every table
abbrev pub SpecificationFilled : List ℕ → List ℕ → List ℕ → Type 0
SpecificationFilled b table table' = table' ≡ fill_specification b table

-- two records without fault, as a skid
unfoldable pub skid_of : List ℕ → List ℕ → Skid
skid_of context specification =
    let c : Counts = context_counts context in
    record {
      n_i = c.i;
      n_o = c.o;
      n_u = c.u;
      n_v = c.v;
      n_a = c.states;
      n_c = (specification_counts specification).states;
      context = rows_in context_layout context;
      specification = specification_table specification;
    }

-- the context row with the key (a, i, v, u, o), by its number; the number of rows where there is none
abbrev pub has_key : ℕ → ℕ → ℕ → ℕ → ℕ → List ℕ → Bool
has_key a i v u o r = eqb (row_state r) a && (eqb (row_i r) i && (eqb (row_v r) v && (eqb (row_u r) u && eqb (row_o r) o)))

unfoldable pub row_number : List (List ℕ) → ℕ → ℕ → ℕ → ℕ → ℕ → ℕ
row_number rows a i v u o = first_place (has_key a i v u o) rows

-- where the context goes from a on i, v, u and o: the next of that row
unfoldable pub context_next : List (List ℕ) → ℕ → ℕ → ℕ → ℕ → ℕ → Option ℕ
context_next rows a i v u o =
    let n : ℕ = row_number rows a i v u o in
    if ltb n (length rows) then some (row_next (get_or rows n [])) else none

-- "the specification row for its i and o": where the specification goes from c
unfoldable pub spec_next : Skid → ℕ → ℕ → ℕ → Option ℕ
spec_next k c i o = there (get_or k.specification (step_place k.n_i k.n_o c i o) absent)

-- where it goes by the context row r from the pair at place p
abbrev pub row_spec_next : Skid → ℕ → List ℕ → Option ℕ
row_spec_next k p r = spec_next k (specification_of k.n_c p) (row_i r) (row_o r)

-- a controller's letter (u, v) is the place u·V + v, so that letters are scanned "u upward and within u, v upward"
abbrev pub letter_at : Skid → ℕ → ℕ → ℕ
letter_at k u v = u * k.n_v + v

unfoldable pub letters : Skid → List ℕ
letters k = left 0 (k.n_u * k.n_v)

-- the letter of a context row
abbrev pub row_letter : Skid → List ℕ → ℕ
row_letter k r = letter_at k (row_u r) (row_v r)

-- where a controller's next table leads from state s by the letter t; 65535 where it does not
abbrev pub next_at : Skid → List ℕ → ℕ → ℕ → ℕ
next_at k next s t = get_or next (s * (k.n_u * k.n_v) + t) absent

-- the places of pairs
unfoldable pub pairs : Skid → List ℕ
pairs k = left 0 (k.n_a * k.n_c)
