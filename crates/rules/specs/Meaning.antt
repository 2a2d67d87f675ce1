-- What two tables, and the next table of a controller, mean: a system of the theory, and where a next table leads on its letters.
-- Assumes nothing.
use Rattle.std.specs.Prelude.{◌≡◌, ◌⊎◌, Bool, ℕ, ◌≤◌, ◌<◌, T, get_or}
use Rattle.std.proofs.Math.Option.{Option}
use mathlib.Core.List.{List, Memᴰ}
use Rattle.words.specs.Words.{Runs, Words}
use Rattle.words.specs.System.{System, Letter}
use Rattle.words.specs.Codes.{Below}
use Rattle.pairs.specs.Sets.{member, pair_place}
use Rattle.rules.specs.Limits.{absent}
use Rattle.rules.specs.NextTables.{there}
use Rattle.rules.specs.Tables.{Skid, context_next, row_state, row_i, row_v, row_u, row_o, row_next, spec_next, letter_at, next_at}

-- a next table of so many states, at least "start state 0": each place holds 65535 or one of the states, and 65535 is none of them
pub record NextTable (states : ℕ) (next : List ℕ) : Type 0 where
  pub occupied : 0 < states
  pub few : states ≤ absent
  pub entry : (p : ℕ) → (get_or next p absent ≡ absent) ⊎ (get_or next p absent < states)

-- no "code or state not below its count"
pub record LegalRow (k : Skid) (r : List ℕ) : Type 0 where
  pub state_below : row_state r < k.n_a
  pub i_below : row_i r < k.n_i
  pub v_below : row_v r < k.n_v
  pub u_below : row_u r < k.n_u
  pub o_below : row_o r < k.n_o
  pub next_below : row_next r < k.n_a

-- the row's key is (a, i, v, u, o)
pub record Keyed (a i v u o : ℕ) (r : List ℕ) : Type 0 where
  pub same_state : row_state r ≡ a
  pub same_i : row_i r ≡ i
  pub same_v : row_v r ≡ v
  pub same_u : row_u r ≡ u
  pub same_o : row_o r ≡ o

-- the tables are legal: start states are there, rows are below their counts, no two rows of the context have one key and different nexts, and
-- the specification is a next table of its states
pub record Legal (k : Skid) : Type 0 where
  pub context_start : 0 < k.n_a
  pub context_rows_lem : (r : List ℕ) → Memᴰ r k.context → LegalRow k r
  pub one_next : (r r' : List ℕ) → Memᴰ r k.context → Memᴰ r' k.context → Keyed (row_state r) (row_i r) (row_v r) (row_u r) (row_o r) r' → row_next r ≡ row_next r'
  pub specification_table_lem : NextTable k.n_c k.specification

-- `asked c i`: the irrigation signals i that need a continuation at the specification state c
module _ (k : Skid) (asked : ℕ → ℕ → Bool) where
  -- the system of the tables: codes below their counts, the context's steps by its rows, the specification's by its next table
  abbrev pub system : System
  system = record {
    U = Below k.n_u;
    R = Below k.n_v;
    Input = Below k.n_i;
    Step = (Below k.n_i × Below k.n_o) × (Below k.n_u × Below k.n_v);
    Outside = Below k.n_i × Below k.n_o;
    signal = λ x. x.1.0;
    reply = λ x. x.1.1;
    input = λ x. x.0.0;
    outside = λ x. x.0;
    A = ℕ;
    a0 = 0;
    ctx = λ a x. context_next k.context a x.0.0.0 x.1.1.0 x.1.0.0 x.0.1.0;
    C = ℕ;
    c0 = 0;
    spc = λ c f. spec_next k c f.0.0 f.1.0;
    asked = λ c i. T (asked c i.0);
  }

  -- the place of a letter (u, v)
  abbrev pub letter_of : Letter system → ℕ
  letter_of l = letter_at k l.0.0 l.1.0

  -- where a next table leads from the state q on a letter
  abbrev pub table_step : List ℕ → ℕ → Letter system → Option ℕ
  table_step next q l = there (next_at k next q (letter_of l))

  -- the controller words that a next table can run from "start state 0"
  abbrev pub TableWords : List ℕ → Words (Letter system)
  TableWords next = Runs (table_step next) 0

-- the pair (a, c) is in the set
abbrev pub InSet : Skid → ℕ → ℕ → ℕ → Type 0
InSet k s a c = (a < k.n_a) × (c < k.n_c) × T (member (pair_place k.n_c a c) s)
