-- Words and sets of words; staying within, the plain answer and what breaks, where context and specification are any sets of words.
-- Assumes nothing.
use Rattle.std.specs.Prelude.{◌≡◌, List, [], ◌∷◌, ◌++◌, map}
use Rattle.std.proofs.Math.Option.{Option, none, some, IsSome}

-- What a table reaches over a word; none where it cannot run the word. A table is its step function: at most one next state for a letter,
-- so that "its state afterwards is unique".
abbrev pub onward : {S T : Type 0} → Option S → (S → Option T) → Option T
onward none f = none
onward (some s) f = f s

abbrev pub run : {S L : Type 0} → (S → L → Option S) → S → List L → Option S
run step s [] = some s
run step s (l ∷ w) = onward (step s l) (λ t. run step t w)

-- the table can run the word from the state s
abbrev pub Runs : {S L : Type 0} → (S → L → Option S) → S → List L → Type 0
Runs step s w = IsSome (run step s w)

-- a set of words
abbrev pub Words : Type 0 → Type 1
Words L = List L → Type 0

infix 4 ◌⊆◌
abbrev pub ◌⊆◌ : {L : Type 0} → Words L → Words L → Type 0
◌⊆◌ {L} X Y = (w : List L) → X w → Y w

-- "holds the beginnings of each of its members": with p ++ z it holds p
abbrev pub PrefixClosed : {L : Type 0} → Words L → Type 0
PrefixClosed {L} X = (p z : List L) → X (p ++ z) → X p

-- "the complement of"
abbrev pub Complement : {L : Type 0} → Words L → Words L
Complement X w = ¬ X w

-- P is "the largest prefix-closed part of" Q
pub record LargestPrefixClosedPart {L : Type 0} (P Q : Words L) : Type 1 where
  pub closed : PrefixClosed P
  pub part : P ⊆ Q
  pub largest : (X : Words L) → PrefixClosed X → X ⊆ Q → X ⊆ P

-- Step holds the steps (i, u, v, o): `letter` is what stays when i and o are dropped, `outside` what stays when u and v are dropped.
-- Context holds the combined words, Specification the outside words that the specification can run.
module _ {Step L Outside : Type 0} (letter : Step → L) (outside : Step → Outside) (Context : Words Step) (Specification : Words Outside) where
  -- X "joined to the context, stays within the specification": so does every combined word over a word of X
  abbrev pub JoinedStaysWithin : Words L → Type 0
  JoinedStaysWithin X = (α : List Step) → Context α → X (map letter α) → Specification (map outside α)

  -- "all controller words such that for the word and each beginning of it, every combined word over that beginning stays within the specification"
  abbrev pub PlainOf : Words L
  PlainOf w = (p z : List L) → p ++ z ≡ w → (α : List Step) → Context α → map letter α ≡ p → Specification (map outside α)

  -- "context composed with the complement of the specification": the controller words over which some combined word leaves it
  abbrev pub Breaking : Words L
  Breaking w = (α : List Step) × Context α × (map letter α ≡ w) × (¬ Specification (map outside α))
