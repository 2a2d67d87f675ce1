-- The states of the plain answer, said of words: each is the set of pairs (context state a, specification state c) that a plain word reaches.
-- Assumes nothing.
use Rattle.std.specs.Prelude.{◌≡◌, ◌↔◌, List, [], ℕ, ◌<◌, length, get_or}
use Rattle.std.proofs.Math.Option.{some}
use Rattle.words.specs.Words.{run}
use Rattle.words.specs.System.{System, Letter, controller_word, outside_word, Plain}

module _ (s : System) where
  open s use {Step, A, a0, ctx, C, c0, spc}

  -- the pair (a, c) is in the set that the controller word w reaches: a combined word over w, within the specification, leads there
  abbrev pub PairAfter : List (Letter s) → A → C → Type 0
  PairAfter w a c = (α : List Step) × (controller_word s α ≡ w) × (run ctx a0 α ≡ some a) × (run spc c0 (outside_word s α) ≡ some c)

  abbrev pub SameSet : List (Letter s) → List (Letter s) → Type 0
  SameSet w w' = (a : A) (c : C) → PairAfter w a c ↔ PairAfter w' a c

  -- more than n plain states: more than n plain words, no two of which reach the same set
  pub record MoreSets (n : ℕ) : Type 0 where
    pub words : List (List (Letter s))
    pub more : n < length words
    pub plain : (i : ℕ) → i < length words → Plain s (get_or words i [])
    pub different : (i j : ℕ) → i < length words → j < length words → SameSet (get_or words i []) (get_or words j []) → i ≡ j
