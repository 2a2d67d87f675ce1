-- The solutions that solving can give of a skid: its deletion and its fresh numbering by name, and which of them is due.
-- Assumes nothing.
use Rattle.std.specs.Prelude.{Err, if◌then◌else◌}
use mathlib.Core.Path.{◌≡◌}
use mathlib.Core.Bool.{Bool, true, false}
use lib.ListN.{length}
use Rattle.rules.specs.Tables.{Skid}
use Rattle.rules.specs.Discover.{Numbered}
use Rattle.rules.specs.Continues.{every_input}
use Rattle.answers.specs.declared.Wanted.{Wanted}
use Rattle.answers.specs.declared.Unsolved.TheVariants.{TooMany, Nothing}
use Rattle.answers.specs.Plain.{plain}
use Rattle.answers.specs.Rounds.{is_kept, Deletion}
use Rattle.answers.specs.Unblocked.{sets_of, unblocked, afresh}
use Rattle.answers.specs.Solve.{table_found, Solution, no_table, unblocked_solution, solution_of, solution}

module _ (k : Skid) where
  abbrev pub deleted : Deletion
  deleted = unblocked k (plain k).states (plain k).next every_input

  abbrev pub fresh : Numbered
  fresh = afresh k (plain k).states (plain k).next deleted.kept

  -- the unblocked answer where the start is kept
  abbrev pub fresh_solution : Solution
  fresh_solution = record { answer = table_found (length fresh.states) deleted.rounds; sets = sets_of (plain k).states fresh.states; next = fresh.next }

  pub over_solution : (w : Wanted) → (plain k).over ≡ true → solution w k ≡ no_table (Err TooMany)
  unfolding solution
  over_solution w e = rw e

  pub within_solution : (w : Wanted) → (plain k).over ≡ false → solution w k ≡ solution_of w k (plain k)
  unfolding solution
  within_solution w e = rw e

  pub kept_solution_lem : is_kept deleted.kept 0 ≡ true → unblocked_solution k (plain k) ≡ fresh_solution
  unfolding unblocked_solution
  kept_solution_lem e = rw e

  -- "if the start is deleted, the answer is "none""
  pub none_solution : is_kept deleted.kept 0 ≡ false → unblocked_solution k (plain k) ≡ no_table (Err (Nothing deleted.rounds))
  unfolding unblocked_solution
  none_solution e = rw e

  -- what both have, the unblocked answer has
  pub either_solution : (P : Solution → Type 0) → P fresh_solution → P (no_table (Err (Nothing deleted.rounds))) → P (unblocked_solution k (plain k))
  unfolding unblocked_solution
  either_solution P a b = go (is_kept deleted.kept 0)
    where
      go : (c : Bool) → P (if c then fresh_solution else no_table (Err (Nothing deleted.rounds)))
      go true = a
      go false = b
