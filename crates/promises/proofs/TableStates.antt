-- A next table leads from state 0 to its states only.
-- Assumes nothing.
use mathlib.Core.Path.{◌≡◌, sym, subst, ◌∙◌}
use mathlib.Core.Bool.{Bool}
use mathlib.Core.Option.{some, some-injective}
use mathlib.Core.List.{List, [], ◌∷◌}
use Prim.Native.Nat.{ℕ, ◌+◌, ◌*◌, ◌<◌}
use Rattle.words.specs.Words.{run}
use Rattle.words.specs.System.{Letter}
use Rattle.words.proofs.Words.{first_step, is_some, run_cons}
use Rattle.rules.specs.Tables.{Skid}
use Rattle.rules.specs.Meaning.{NextTable, system, letter_of, table_step}
use Rattle.rules.proofs.Rows.{entry_below}

module _ (k : Skid) (asked : ℕ → ℕ → Bool) (states : ℕ) (next : List ℕ) (table : NextTable states next) where
  pub step_below : (q : ℕ) (l : Letter (system k asked)) (q' : ℕ) → table_step k asked next q l ≡ some q' → q' < states
  step_below q l q' e = entry_below states next table (q * (k.n_u * k.n_v) + letter_of k asked l) q' e

  from_below : (w : List (Letter (system k asked))) (p q : ℕ) → p < states → run (table_step k asked next) p w ≡ some q → q < states
  from_below [] p q h e = subst (λ q. q < states) (some-injective p q e) h
  from_below (l ∷ w) p q h e =
      let (p', s, _) = first_step (table_step k asked next) p l w (is_some e) in
      from_below w p' q (step_below p l p' s) (sym (run_cons (table_step k asked next) {l = l} w s) ∙ e)

  pub run_below : (w : List (Letter (system k asked))) (q : ℕ) → run (table_step k asked next) 0 w ≡ some q → q < states
  run_below w q e = from_below w 0 q table.occupied e
