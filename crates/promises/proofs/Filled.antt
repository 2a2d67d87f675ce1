-- A lent buffer that begins with a table runs the table's words, and the places that writing takes from it are the table.
-- Assumes nothing.
use mathlib.Core.Path.{◌≡◌, refl, sym, ap, subst, ◌∙◌}
use mathlib.Core.Logic.{◌↔◌}
use mathlib.Core.Bool.{Bool}
use mathlib.Core.Option.{Option, none, some, IsSome}
use mathlib.Core.List.{List, [], ◌∷◌, ◌++◌, append_assoc}
use Prim.Native.Nat.{ℕ, ◌+◌, ◌-◌, ◌*◌, ◌<◌}
use lib.ListN.{length, get_or, drop, replicate, get_or-append}
use lib.Seq.{take_at}
use Rattle.words.specs.Words.{onward, run}
use Rattle.words.specs.System.{Letter}
use Rattle.pairs.specs.Lent.{filled}
use Rattle.pairs.proofs.Lists.{part_below}
use Rattle.rules.specs.Limits.{absent}
use Rattle.rules.specs.NextTables.{there}
use Rattle.rules.specs.Tables.{Skid}
use Rattle.rules.specs.Writing.{places}
use Rattle.rules.specs.Meaning.{NextTable, system, letter_of, table_step, TableWords}
use Rattle.promises.proofs.TableStates.{step_below}

-- two tables that agree on states that steps do not leave
module _ {S L : Type 0} (ok : S → Type 0) (step step' : S → L → Option S) (agree : (s : S) → ok s → (l : L) → step s l ≡ step' s l)
    (closed : (s : S) → ok s → (l : L) (t : S) → step' s l ≡ some t → ok t) where
  run_agree : (w : List L) (s : S) → ok s → run step s w ≡ run step' s w
  run_agree [] s o = refl
  run_agree (l ∷ w) s o = ap (λ n. onward n (λ t. run step t w)) (agree s o l) ∙ go (step' s l) (λ t e. run_agree w t (closed s o l t e))
    where
      go : (n : Option S) → ((t : S) → n ≡ some t → run step t w ≡ run step' t w) → onward n (λ t. run step t w) ≡ onward n (λ t. run step' t w)
      go none rest = refl
      go (some t) rest = rest t refl

-- what stands behind the table
filled_front : (n : ℕ) (part buffer : List ℕ) → filled n part buffer ≡ part ++ (replicate (n - length part) 0 ++ drop n buffer)
unfolding filled
filled_front n part buffer = append_assoc part (replicate (n - length part) 0) (drop n buffer)

module _ (k : Skid) (asked : ℕ → ℕ → Bool) (states : ℕ) (table : List ℕ) (t : NextTable states table) (size : length table ≡ states * (k.n_u * k.n_v)) (n : ℕ) (buffer : List ℕ) where
  same_entry : (p : ℕ) → p < states * (k.n_u * k.n_v) → get_or (filled n table buffer) p absent ≡ get_or table p absent
  same_entry p h = ap (λ l. get_or l p absent) (filled_front n table buffer)
      ∙ get_or-append table (replicate (n - length table) 0 ++ drop n buffer) absent p (subst (λ m. p < m) (sym size) h)

  same_step : (q : ℕ) → q < states → (l : Letter (system k asked)) → table_step k asked (filled n table buffer) q l ≡ table_step k asked table q l
  same_step q h l = ap there (same_entry (q * (k.n_u * k.n_v) + letter_of k asked l)
      (part_below (k.n_u * k.n_v) states q (letter_of k asked l) h (part_below k.n_v k.n_u l.0.0 l.1.0 l.0.1 l.1.1)))

  pub filled_run : (w : List (Letter (system k asked))) → run (table_step k asked (filled n table buffer)) 0 w ≡ run (table_step k asked table) 0 w
  filled_run w = run_agree (λ q. q < states) (table_step k asked (filled n table buffer)) (table_step k asked table) same_step
      (λ q h. step_below k asked states table t q) w 0 t.occupied

  pub filled_words : (w : List (Letter (system k asked))) → TableWords k asked (filled n table buffer) w ↔ TableWords k asked table w
  filled_words w = (subst IsSome (filled_run w), subst IsSome (sym (filled_run w)))

  pub filled_places : places k.n_u k.n_v states (filled n table buffer) ≡ table
  filled_places = rw (filled_front n table buffer) (take_at table (replicate (n - length table) 0 ++ drop n buffer) (states * (k.n_u * k.n_v)) size)
