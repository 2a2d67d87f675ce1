-- The set automaton, by its laws: "Its states are sets of pairs (context state a, specification state c)."
-- Assumes nothing.
use Rattle.std.specs.Prelude.{◌≡◌, ◌↔◌}
use Rattle.std.proofs.Math.Option.{Option, none, some, IsSome}
use Rattle.words.specs.System.{System, Letter, letter}

module _ (s : System) where
  open s use {Step, outside, A, a0, ctx, C, c0, spc}

  -- "some such context row has no specification row": from a pair of P the context has a step x over l, and the specification has none for it
  pub record Leaves (P : A → C → Type 0) (l : Letter s) : Type 0 where
    pub a : A
    pub c : C
    pub x : Step
    pub member : P a c
    pub over : letter s x ≡ l
    pub step : IsSome (ctx a x)
    pub no_row : spc c (outside x) ≡ none

  -- the pair (a', c') is "reached from a pair by a context row with that u and v and the specification row for its i and o"
  pub record Reached (P : A → C → Type 0) (l : Letter s) (a' : A) (c' : C) : Type 0 where
    pub a : A
    pub c : C
    pub x : Step
    pub member : P a c
    pub over : letter s x ≡ l
    pub step : ctx a x ≡ some a'
    pub row : spc c (outside x) ≡ some c'

  -- "If some such context row has no specification row, (u, v) is absent"; else "The set after (u, v) holds all pairs reached"
  abbrev pub StepLaw : {Q : Type 0} → (Q → A → C → Type 0) → Q → Letter s → Option Q → Type 0
  StepLaw has q l none = Leaves (has q) l
  StepLaw has q l (some q') = (¬ Leaves (has q) l) × ((a : A) (c : C) → has q' a c ↔ Reached (has q) l a c)

  pub record SetAutomaton : Type 1 where
    -- names for sets; those that count, among them the start and what present steps lead to; the pairs of each
    pub Q : Type 0
    pub ok : Q → Type 0
    pub has : Q → A → C → Type 0
    pub start : Q
    pub next : Q → Letter s → Option Q
    pub start_ok : ok start
    pub next_ok : (q : Q) → ok q → (l : Letter s) (q' : Q) → next q l ≡ some q' → ok q'
    -- "Start: the single pair (0, 0)."
    pub start_has : (a : A) (c : C) → has start a c ↔ ((a ≡ a0) × (c ≡ c0))
    pub next_has : (q : Q) → ok q → (l : Letter s) → StepLaw has q l (next q l)
