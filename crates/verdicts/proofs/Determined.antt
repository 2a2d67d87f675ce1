-- The predicates of the check determine the outcome.
-- Assumes nothing.
use mathlib.Core.Path.{◌≡◌}
use mathlib.Core.List.{List}
use Prim.Native.Nat.{ℕ}
use Rattle.pairs.proofs.Determined.{determined}
use Rattle.rules.specs.declared.Reply.{Reply}
use Rattle.verdicts.specs.Verdict.{Verdict, Replied}
use Rattle.verdicts.specs.Check.{Checked}

pub replied_determined : (states : ℕ) (v : Verdict) (r s : Reply) → Replied states v r → Replied states v s → r ≡ s
replied_determined states v r s = determined

pub checked_determined : (context specification controller sets : List ℕ) (r s : Reply) (a b : List ℕ)
    → Checked context specification controller sets r a → Checked context specification controller sets s b → (r ≡ s) × (a ≡ b)
checked_determined context specification controller sets r s a b x y = (determined x.reply_is y.reply_is, determined x.sets_are y.sets_are)
