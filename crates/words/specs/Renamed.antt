-- "The unblocked answer is numbered afresh": a table whose states are kept states under new names.
-- Assumes nothing.
use Rattle.std.specs.Prelude.{◌≡◌, Bool, cond}
use Rattle.std.proofs.Math.Option.{Option, none, some, map}
use Rattle.words.specs.System.{System, Letter}
use Rattle.words.specs.Sets.{SetAutomaton}

-- a next state, where it is kept
abbrev pub if_kept : {Q : Type 0} → (Q → Bool) → Option Q → Option Q
if_kept kept none = none
if_kept kept (some q) = cond (kept q) (some q) none

module _ (s : System) (m : SetAutomaton s) where
  open m use {Q, start, next}

  -- `old` gives the state that a new name stands for: each step of the table is the step of the automaton to a kept state, or both are absent
  pub record Renamed (kept : Q → Bool) {D : Type 0} (step : D → Letter s → Option D) (d0 : D) : Type 1 where
    pub ok : D → Type 0
    pub old : D → Q
    pub start_ok : ok d0
    pub start_old : old d0 ≡ start
    pub next_ok : (d : D) → ok d → (l : Letter s) (d' : D) → step d l ≡ some d' → ok d'
    pub next_old : (d : D) → ok d → (l : Letter s) → map old (step d l) ≡ if_kept kept (next (old d) l)
