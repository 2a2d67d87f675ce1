-- The predicates of the public functions determine the outcome.
-- Assumes nothing.
use Rattle.std.specs.Prelude.{Option}
use mathlib.Core.Path.{◌≡◌}
use mathlib.Core.List.{List}
use Prim.Native.Nat.{ℕ}
use Rattle.pairs.proofs.Determined.{determined}
use Rattle.rules.specs.declared.Reply.{Reply}
use Rattle.answers.specs.declared.Wanted.{Wanted}
use Rattle.answers.specs.Solve.{ModeOf, Answer, AnswerReplied, SolveOutcome, solve_for, solve, Gives, Solved, SolvedFor}

pub mode_determined : (number : ℕ) (m n : Option Wanted) → ModeOf number m → ModeOf number n → m ≡ n
mode_determined number m n = determined

pub answer_determined : (a : Answer) (r s : Reply) → AnswerReplied a r → AnswerReplied a s → r ≡ s
answer_determined a r s = determined

given_determined : (outcome : SolveOutcome) (r s : Reply) (a b n m : List ℕ) → Gives outcome r a n → Gives outcome s b m → (r ≡ s) × (a ≡ b) × (n ≡ m)
given_determined outcome r s a b n m x y = (determined x.reply_is y.reply_is, determined x.sets_are y.sets_are, determined x.next_is y.next_is)

pub solved_determined : (mode : ℕ) (context specification sets next : List ℕ) (r s : Reply) (a b n m : List ℕ)
    → Solved mode context specification sets next r a n → Solved mode context specification sets next s b m → (r ≡ s) × (a ≡ b) × (n ≡ m)
solved_determined mode context specification sets next = given_determined (solve mode context specification sets next)

pub solved_for_determined : (w : Wanted) (context specification sets next : List ℕ) (r s : Reply) (a b n m : List ℕ)
    → SolvedFor w context specification sets next r a n → SolvedFor w context specification sets next s b m → (r ≡ s) × (a ≡ b) × (n ≡ m)
solved_for_determined w context specification sets next = given_determined (solve_for context specification sets next w)
