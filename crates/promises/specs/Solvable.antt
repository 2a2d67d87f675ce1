-- When solving gives an answer, by the input alone: "Where both tables are legal and match, and 01's limits on pairs, plain states and buffers hold".
-- Assumes nothing.
use Rattle.std.specs.Prelude.{◌≡◌, true, List, ℕ, ◌≤◌, length, Ok}
use Rattle.words.specs.System.{Letter}
use Rattle.words.specs.Words.{Words}
use Rattle.words.specs.States.{MoreSets}
use Rattle.rules.specs.Limits.{state_limit, set_numbers, next_numbers}
use Rattle.rules.specs.Layouts.{context_layout, specification_layout}
use Rattle.rules.specs.Faults.{fault}
use Rattle.rules.specs.Tables.{skid_of}
use Rattle.rules.specs.Matching.{outside_agree, product_fits}
use Rattle.rules.specs.Continues.{every_input}
use Rattle.rules.specs.Meaning.{TableWords}
use Rattle.verdicts.specs.Checkable.{skid_system}

-- the two records are legal and match, the product of states is within its limit, and so many numbers are lent: no refusal 1 to 10
pub record Solvable (context specification sets next : List ℕ) : Type 0 where
  pub context_sound : fault context_layout context ≡ Ok tt
  pub specification_sound : fault specification_layout specification ≡ Ok tt
  pub outside_agrees : outside_agree context specification ≡ true
  pub product_fits_lem : product_fits context specification ≡ true
  pub sets_room : set_numbers ≤ length sets
  pub next_room : next_numbers ≤ length next

module _ (context specification : List ℕ) where
  -- "more than 512 plain states": more than 512 plain words reach pairwise different sets
  abbrev pub TooManySets : Type 0
  TooManySets = MoreSets (skid_system context specification) state_limit

  -- the controller words that the next table at the front of lent numbers runs on the skid of the two records
  abbrev pub WordsOf : List ℕ → Words (Letter (skid_system context specification))
  WordsOf = TableWords (skid_of context specification) every_input
