-- What the lent buffers hold where an answer has a table: states, sets, steps and numbering, said of the words that the table runs.
-- Assumes nothing.
use Rattle.std.specs.Prelude.{◌≡◌, ◌↔◌, List, ◌∷◌, ◌++◌, map, ℕ, ◌*◌, ◌<◌, T, length, get_or, drop, replicate}
use Rattle.std.proofs.Math.Option.{some}
use Rattle.words.specs.Words.{run}
use Rattle.words.specs.System.{Letter}
use Rattle.words.specs.States.{PairAfter, SameSet}
use Rattle.pairs.specs.Scans.{left}
use Rattle.pairs.specs.Sets.{member, empty}
use Rattle.pairs.specs.Lent.{filled, encoded_sets}
use Rattle.rules.specs.Limits.{set_numbers, next_numbers}
use Rattle.rules.specs.Counts.{context_counts, specification_counts}
use Rattle.rules.specs.NextTables.{there}
use Rattle.rules.specs.Tables.{skid_of}
use Rattle.rules.specs.FirstDiscovery.{firsts, targets}
use Rattle.rules.specs.Continues.{every_input}
use Rattle.rules.specs.Meaning.{NextTable, table_step, InSet}
use Rattle.verdicts.specs.Checkable.{skid_system}

module _ (context specification : List ℕ) where
  -- the state to which a word leads in a next table
  abbrev pub LeadsTo : List ℕ → List (Letter (skid_system context specification)) → ℕ → Type 0
  LeadsTo table w q = run (table_step (skid_of context specification) every_input table) 0 w ≡ some q

  -- a table of so many states, with a set for each
  pub record HoldTable (states : ℕ) (sets next sets' next' : List ℕ) : Type 0 where
    pub reached : List ℕ
    pub table : List ℕ
    -- "On 0 the first hold each state's set .., then zeros up to 512; the second hold next states .., then zeros up to 8,192."
    pub sets_are : sets' ≡ filled set_numbers (encoded_sets reached) sets
    pub next_is : next' ≡ filled next_numbers table next
    pub each_state : length reached ≡ states
    pub each_step : length table ≡ states * ((context_counts context).u * (context_counts context).v)
    pub steps : NextTable states table
    -- the state to which a word leads has the set that the word reaches, and no other place than those of pairs; each state has such a word; words that
    -- reach one set lead to one state: so there are as many states as different sets reached
    pub exactly : (w : List (Letter (skid_system context specification))) (q : ℕ) → LeadsTo table w q
        → (a c : ℕ) → InSet (skid_of context specification) (get_or reached q empty) a c ↔ PairAfter (skid_system context specification) w a c
    pub only_pairs : (q p : ℕ) → T (member p (get_or reached q empty)) → p < (context_counts context).states * (specification_counts specification).states
    pub each_reached : (q : ℕ) → q < states → (w : List (Letter (skid_system context specification))) × LeadsTo table w q
    pub different : (w w' : List (Letter (skid_system context specification))) (q q' : ℕ) → LeadsTo table w q → LeadsTo table w' q'
        → SameSet (skid_system context specification) w w' → q ≡ q'
    -- "start is 0; then by first discovery, scanning states upward and, in each, u upward and within u, v upward": whoever reads 0 and then the
    -- table from its front meets the states first in the order 0, 1, 2, ..
    pub first_discovery : firsts (0 ∷ targets (map there table)) ≡ left 0 states

-- "On 11 and 12 both parts are zero"
pub record HoldZeros (sets next sets' next' : List ℕ) : Type 0 where
  pub sets_are : sets' ≡ replicate set_numbers 0 ++ drop set_numbers sets
  pub next_is : next' ≡ replicate next_numbers 0 ++ drop next_numbers next
