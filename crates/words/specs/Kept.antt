-- The rounds of deletion, said of words: a plain word stands for the state that it leads to.
-- Assumes nothing.
use Rattle.std.specs.Prelude.{◌≡◌, List, [], ◌∷◌, ◌++◌, ℕ, zero, suc, ◌<◌}
use Rattle.std.proofs.Math.Option.{IsSome}
use Rattle.words.specs.Words.{Words}
use Rattle.words.specs.System.{System, Letter, letter, Plain}
use Rattle.words.specs.States.{PairAfter}

module _ (s : System) where
  open s use {U, R, Input, Step, input, A, ctx, C, asked}

  -- where the words of K lead to kept states, the state of the word w "passes if (i) for each u there is a v whose next state is kept, and (ii) for
  -- each of its pairs and each i below I there is a context row from a on i whose (u, v) is present and leads to a kept state"
  pub record WordPasses (K : Words (Letter s)) (w : List (Letter s)) : Type 0 where
    pub replies : (u : U) → ∥ ((r : R) × K (w ++ ((u, r) ∷ []))) ∥₁
    pub continues : (a : A) (c : C) → PairAfter s w a c → (i : Input) → asked c i
        → ∥ ((x : Step) × (input x ≡ i) × IsSome (ctx a x) × K (w ++ (letter s x ∷ []))) ∥₁

  -- the words whose states are kept after j rounds: "keep all plain states" to begin with; "A round deletes at once all kept states that do not pass."
  abbrev pub KeptAfter : ℕ → Words (Letter s)
  KeptAfter zero w = Plain s w
  KeptAfter (suc j) w = KeptAfter j w × WordPasses (KeptAfter j) w

  -- "Rounds are counted while they delete something": each of the first n does, and the next does not
  pub record RoundsOfWords (n : ℕ) : Type 0 where
    pub deleting : (j : ℕ) → j < n → (w : List (Letter s)) × KeptAfter j w × (¬ KeptAfter (suc j) w)
    pub done : (w : List (Letter s)) → KeptAfter n w → KeptAfter (suc n) w

  -- "The answer holds the states still reached from the start through kept ones": the words that run through them after n rounds
  abbrev pub ThroughKept : ℕ → Words (Letter s)
  ThroughKept n w = (p z : List (Letter s)) → p ++ z ≡ w → KeptAfter n p
