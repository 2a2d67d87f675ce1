-- The fit check of a controller table against both tables, by the triples that are reached.
-- Assumes nothing.
use Rattle.std.specs.Prelude.{◌≡◌, List}
use Rattle.std.proofs.Math.Option.{Option, some, IsSome}
use Rattle.words.specs.Words.{run}
use Rattle.words.specs.System.{System, Letter, letter, controller_word, outside_word}

module _ (s : System) {D : Type 0} (step : D → Letter s → Option D) (d0 : D) where
  open s use {U, R, Input, Step, input, outside, A, a0, ctx, C, c0, spc, asked}

  -- not "incomplete if a state reached by its own rows has no row for some u"
  abbrev pub Complete : Type 0
  Complete = (w : List (Letter s)) (d : D) → run step d0 w ≡ some d → (u : U) → ∥ ((r : R) × IsSome (step d (u, r))) ∥₁

  -- "the triples (a, c, controller state) reached by combined words within the specification whose controller word the controller can run"
  abbrev pub Triple : A → C → D → Type 0
  Triple a c d = (α : List Step) × (run ctx a0 α ≡ some a) × (run spc c0 (outside_word s α) ≡ some c) × (run step d0 (controller_word s α) ≡ some d)

  -- not "It leaves if from some triple a joint step has no specification row."
  abbrev pub Stays : Type 0
  Stays = (a : A) (c : C) (d : D) → Triple a c d → (x : Step) → IsSome (ctx a x) → IsSome (step d (letter s x)) → IsSome (spc c (outside x))

  -- not "it blocks if some triple has an i with no joint step"
  abbrev pub Joins : Type 0
  Joins = (a : A) (c : C) (d : D) → Triple a c d → (i : Input) → asked c i
      → ∥ ((x : Step) × (input x ≡ i) × IsSome (ctx a x) × IsSome (step d (letter s x))) ∥₁

  -- "Otherwise it fits."
  pub record Fits : Type 0 where
    pub complete : Complete
    pub stays : Stays
    pub joins : Joins
