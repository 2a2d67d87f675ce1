-- The unblocked answer: which kept states pass, the rounds that delete the others, and the words that run through kept states.
-- Assumes nothing.
use Rattle.std.specs.Prelude.{◌≡◌, ◌↔◌, Bool, true, ◌&&◌, ℕ, zero, suc, ◌<◌, T}
use Rattle.std.proofs.Math.Option.{some, IsSome}
use mathlib.Core.List.{List, [], ◌∷◌, Memᴰ}
use Rattle.words.specs.Words.{Words}
use Rattle.words.specs.System.{System, Letter, letter}
use Rattle.words.specs.Sets.{SetAutomaton}

module _ (s : System) (m : SetAutomaton s) where
  open s use {U, R, Input, Step, input, A, ctx, C, asked}
  open m use {Q, ok, has, start, next}

  -- "A kept state passes if (i) for each u there is a v whose next state is kept, and (ii) for each of its pairs and each i below I there is a
  -- context row from a on i whose (u, v) is present and leads to a kept state."
  pub record Passes (kept : Q → Bool) (q : Q) : Type 0 where
    pub replies : (u : U) → ∥ ((r : R) × (q' : Q) × (next q (u, r) ≡ some q') × T (kept q')) ∥₁
    pub continues : (a : A) (c : C) → has q a c → (i : Input) → asked c i
        → ∥ ((x : Step) × (q' : Q) × (input x ≡ i) × IsSome (ctx a x) × (next q (letter s x) ≡ some q') × T (kept q')) ∥₁

  -- the states in a list, and a test that decides which of them pass
  pub record Finite : Type 0 where
    pub states : List Q
    pub listed : (q : Q) → ok q ↔ Memᴰ q states
    pub pass : (Q → Bool) → Q → Bool
    pub pass_law : (kept : Q → Bool) (q : Q) → ok q → T (pass kept q) ↔ Passes kept q

  -- the word runs from q on "through kept ones"
  abbrev pub Through : (Q → Bool) → Q → Words (Letter s)
  Through kept q [] = T (kept q)
  Through kept q (l ∷ w) = T (kept q) × (q' : Q) × (next q l ≡ some q') × Through kept q' w

  module _ (f : Finite) where
    open f use {pass}

    -- "A round deletes at once all kept states that do not pass."
    abbrev pub round : (Q → Bool) → Q → Bool
    round kept q = kept q && pass kept q

    -- the states kept after j rounds: "keep all plain states" to begin with
    abbrev pub after : ℕ → Q → Bool
    after zero q = true
    after (suc j) q = round (after j) q

    -- the round that follows j rounds deletes the state q
    abbrev pub Deletes : ℕ → Q → Type 0
    Deletes j q = ok q × T (after j q) × (¬ T (after (suc j) q))

    -- "Rounds are counted while they delete something": each of the first n does, and the next does not
    pub record Rounds (n : ℕ) : Type 0 where
      pub deleting : (j : ℕ) → j < n → (q : Q) × Deletes j q
      pub done : (q : Q) → ¬ Deletes n q

    -- "The answer holds the states still reached from the start through kept ones": its words after n rounds
    abbrev pub Unblocked : ℕ → Words (Letter s)
    Unblocked n = Through (after n) start
