-- The answer by its mode, from what a `match` has told.
-- Assumes nothing.
use Rattle.std.specs.Prelude.{Option, Some, None}
use mathlib.Core.Path.{◌≡◌, refl, sym, subst, ◌∙◌}
use mathlib.Core.List.{List}
use Prim.Native.Nat.{ℕ}
use Rattle.rules.specs.declared.Reply.{Reply}
use Rattle.rules.specs.Replies.{refusal}
use Rattle.answers.specs.declared.Wanted.{Wanted}
use Rattle.answers.specs.Solve.{ModeOf, solve_by, solve, Gives, Solved, SolvedFor}

module _ (number : ℕ) (mode : Option Wanted) (is : ModeOf number mode) (context specification sets next : List ℕ) where
  by_mode : (told : Option Wanted) → mode ≡ told → (r : Reply) (sets' next' : List ℕ) → Gives (solve_by context specification sets next told) r sets' next'
      → Solved number context specification sets next r sets' next'
  unfolding solve
  by_mode told e r sets' next' = subst (λ m. Gives (solve_by context specification sets next m) r sets' next') (sym e ∙ is)

  pub known_solved : (w : Wanted) → mode ≡ Some w → (r : Reply) (sets' next' : List ℕ) → SolvedFor w context specification sets next r sets' next'
      → Solved number context specification sets next r sets' next'
  unfolding solve_by
  known_solved w e = by_mode (Some w) e

  -- 13 "mode unknown": nothing is written
  pub unknown_stays : mode ≡ None → (r : Reply) → r ≡ refusal 13 0 0 0 → Solved number context specification sets next r sets next
  unfolding solve_by
  unknown_stays e r refused = by_mode None e r sets next (record { reply_is = refused; sets_are = refl; next_is = refl })
