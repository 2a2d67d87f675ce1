-- The predicates of the public functions determine the outcome.
-- Assumes nothing.
use mathlib.Core.Path.{◌≡◌}
use mathlib.Core.List.{List}
use Prim.Native.Nat.{ℕ}
use Rattle.pairs.proofs.Determined.{determined}
use Rattle.rules.specs.declared.Reply.{Reply}
use Rattle.fit.specs.declared.Controller.{Controller}
use Rattle.fit.specs.Panel.{ContextReplied, SpecificationReplied, ControllerReplied}

-- the panel's entries for reading; the one for writing has the predicate of crate `rules`, with `written_determined`
pub context_replied_determined : (b : List ℕ) (r s : Reply) → ContextReplied b r → ContextReplied b s → r ≡ s
context_replied_determined b r s = determined

pub specification_replied_determined : (b : List ℕ) (r s : Reply) → SpecificationReplied b r → SpecificationReplied b s → r ≡ s
specification_replied_determined b r s = determined

pub controller_replied_determined : (b next : List ℕ) (r s : Controller) (n m : List ℕ)
    → ControllerReplied b next r n → ControllerReplied b next s m → (r ≡ s) × (n ≡ m)
controller_replied_determined b next r s n m x y = (determined x.reply_is y.reply_is, determined x.next_is y.next_is)
