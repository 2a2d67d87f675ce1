-- A skid, its combined words and their controller words and outside words; the plain answer; what a controller and a good controller is.
-- `∥ .. ∥₁` reads: there is one, whichever. Assumes nothing.
use Rattle.std.specs.Prelude.{◌≡◌, List, [], ◌∷◌, ◌++◌, map}
use Rattle.std.proofs.Math.Option.{Option, some}
use Rattle.words.specs.Words.{run, Runs, Words, PrefixClosed, JoinedStaysWithin, PlainOf}

pub record System : Type 1 where
  -- context-to-controller signals u, controller replies v, irrigation signals i
  pub U : Type 0
  pub R : Type 0
  pub Input : Type 0
  -- the steps (i, u, v, o), and what of them is seen outside, (i, o)
  pub Step : Type 0
  pub Outside : Type 0
  pub signal : Step → U
  pub reply : Step → R
  pub input : Step → Input
  pub outside : Step → Outside
  -- the context: states, start, and the next state of the row for a step, if there is one
  pub A : Type 0
  pub a0 : A
  pub ctx : A → Step → Option A
  -- the specification, the same; and the irrigation signals that need a continuation where it is in a state (in 01: every i)
  pub C : Type 0
  pub c0 : C
  pub spc : C → Outside → Option C
  pub asked : C → Input → Type 0

module _ (s : System) where
  open s use {U, R, Input, Step, Outside, signal, reply, input, outside, A, a0, ctx, C, c0, spc, asked}

  -- a letter of a controller word, (u, v); it is what is left of a step when i and o are dropped
  abbrev pub Letter : Type 0
  Letter = U × R

  abbrev pub letter : Step → Letter
  letter x = (signal x, reply x)

  -- "A combined word is a sequence of steps (i, u, v, o) that the context can run from state 0"
  abbrev pub Combined : Words Step
  Combined α = Runs ctx a0 α

  -- "Dropping i and o gives its controller word; dropping u and v gives its outside word."
  abbrev pub controller_word : List Step → List Letter
  controller_word α = map letter α

  abbrev pub outside_word : List Step → List Outside
  outside_word α = map outside α

  -- "It stays within the specification if the specification can run its outside word."
  abbrev pub Specified : Words Outside
  Specified o = Runs spc c0 o

  abbrev pub Within : Words Step
  Within α = Specified (outside_word α)

  -- X joined to the context stays within the specification
  abbrev pub StaysWithin : Words Letter → Type 0
  StaysWithin X = JoinedStaysWithin letter outside Combined Specified X

  -- the plain answer
  abbrev pub Plain : Words Letter
  Plain = PlainOf letter outside Combined Specified

  -- "takes every context signal": after each word of X, each u has a reply
  abbrev pub TakesEverySignal : Words Letter → Type 0
  TakesEverySignal X = (w : List Letter) → X w → (u : U) → ∥ ((r : R) × X (w ++ ((u, r) ∷ []))) ∥₁

  -- "leaves the joined skid a continuation for every irrigation signal": after each combined word over X that stays within the specification,
  -- each i asked for there has a step of the context that X goes along with
  abbrev pub LeavesContinuation : Words Letter → Type 0
  LeavesContinuation X =
      (α : List Step) → Combined α → X (controller_word α)
      → (c : C) → run spc c0 (outside_word α) ≡ some c → (i : Input) → asked c i
      → ∥ ((x : Step) × (input x ≡ i) × Combined (α ++ (x ∷ [])) × X (controller_word (α ++ (x ∷ [])))) ∥₁

  -- "any set that holds the beginnings of its members and at least the empty behaviour"
  pub record Controller (X : Words Letter) : Type 0 where
    pub starts : X []
    pub closed : PrefixClosed X

  -- a controller that "stays within the specification, takes every context signal, and leaves the joined skid a continuation for every
  -- irrigation signal"
  pub record Good (X : Words Letter) : Type 0 where
    pub controller : Controller X
    pub within : StaysWithin X
    pub signals : TakesEverySignal X
    pub continues : LeavesContinuation X
