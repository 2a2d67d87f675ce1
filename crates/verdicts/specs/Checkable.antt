-- When the check of three records gives a verdict, by the input alone, and what the verdict then speaks of: the skid, the controller's words, the
-- reached pairs.
-- Assumes nothing.
use Rattle.std.specs.Prelude.{◌≡◌, ◌↔◌, true, List, ℕ, ◌*◌, ◌≤◌, ◌<◌, T, length, get_or, Ok}
use Rattle.words.specs.Words.{Words}
use Rattle.words.specs.System.{System, Letter}
use Rattle.words.specs.Fit.{Triple}
use Rattle.pairs.specs.Sets.{member, empty}
use Rattle.pairs.specs.Lent.{filled, encoded_sets}
use Rattle.rules.specs.Limits.{set_numbers}
use Rattle.rules.specs.Layouts.{context_layout, specification_layout, controller_layout}
use Rattle.rules.specs.Counts.{context_counts, specification_counts, controller_counts}
use Rattle.rules.specs.Faults.{fault}
use Rattle.rules.specs.Tables.{skid_of, controller_table}
use Rattle.rules.specs.Matching.{outside_agree, letters_agree, product_fits}
use Rattle.rules.specs.Continues.{every_input}
use Rattle.rules.specs.Meaning.{system, table_step, TableWords, InSet}

-- the three records are legal and match, the product of states is within its limit, and so many numbers are lent: no refusal 1 to 10
pub record Checkable (context specification controller sets : List ℕ) : Type 0 where
  pub context_sound : fault context_layout context ≡ Ok tt
  pub specification_sound : fault specification_layout specification ≡ Ok tt
  pub controller_sound : fault controller_layout controller ≡ Ok tt
  pub outside_agrees : outside_agree context specification ≡ true
  pub letters_agree_lem : letters_agree context controller ≡ true
  pub product_fits_lem : product_fits context specification ≡ true
  pub room : set_numbers ≤ length sets

-- the skid of two records
abbrev pub skid_system : List ℕ → List ℕ → System
skid_system context specification = system (skid_of context specification) every_input

module _ (context specification controller : List ℕ) where
  -- the controller words of a controller record on that skid
  abbrev pub ControllerWords : Words (Letter (skid_system context specification))
  ControllerWords = TableWords (skid_of context specification) every_input (controller_table controller)

  -- a combined word within the specification, "whose controller word the controller can run", leads to the triple (a, c, d)
  abbrev pub ReachedTriple : ℕ → ℕ → ℕ → Type 0
  ReachedTriple = Triple (skid_system context specification) (table_step (skid_of context specification) every_input (controller_table controller)) 0

  -- "the reached pairs of each controller state, zeros after": the pair (a, c) is in the set of the controller's state d exactly if the triple is
  -- reached, and the sets hold no other place than those of pairs
  pub record HoldReachedPairs (sets sets' : List ℕ) : Type 0 where
    pub reached : List ℕ
    pub each_state : length reached ≡ (controller_counts controller).states
    pub lent : sets' ≡ filled set_numbers (encoded_sets reached) sets
    pub exactly : (d : ℕ) → d < (controller_counts controller).states → (a c : ℕ)
        → InSet (skid_of context specification) (get_or reached d empty) a c ↔ ReachedTriple a c d
    pub only_pairs : (d p : ℕ) → T (member p (get_or reached d empty)) → p < (context_counts context).states * (specification_counts specification).states
