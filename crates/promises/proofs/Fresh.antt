-- The fresh table is the kept part of the plain table under new names: its steps are the kept steps of the states by their old numbers, and a word of
-- it leads in the plain table to the old number of the state.
-- Assumes nothing.
use Rattle.std.specs.Prelude.{if◌then◌else◌}
use mathlib.Core.Path.{◌≡◌, refl, sym, ◌∙◌}
use mathlib.Core.Bool.{Bool, true, false, cond}
use mathlib.Core.Option.{Option, none, some, map, none-ne-some}
use mathlib.Core.List.{List, [], ◌∷◌}
use Prim.Native.Nat.{ℕ, ◌*◌, ◌≤◌, ◌<◌}
use native.Mathlib.Omega.{arith}
use lib.ListN.{length, get_or}
use Rattle.words.specs.Words.{run}
use Rattle.words.specs.System.{Letter}
use Rattle.words.specs.Renamed.{if_kept, Renamed}
use Rattle.words.proofs.Words.{first_step, is_some, run_cons}
use Rattle.rules.specs.Limits.{absent}
use Rattle.rules.specs.Tables.{Skid}
use Rattle.rules.specs.Discover.{Numbered}
use Rattle.rules.specs.FirstDiscovery.{Discovery}
use Rattle.rules.specs.Meaning.{NextTable, Legal, system, table_step}
use Rattle.rules.proofs.Reached.{reached_known}
use Rattle.rules.proofs.DiscoveryTable.{discovery_table}
use Rattle.answers.specs.Plain.{start_set}
use Rattle.answers.specs.Rounds.{is_kept}
use Rattle.answers.specs.Unblocked.{kept_step, step_on, afresh}
use Rattle.answers.proofs.Plain.{set_steps}
use Rattle.answers.proofs.Afresh.{kept_steps, afresh_discovered}
use Rattle.promises.proofs.TableStates.{step_below}
use Rattle.promises.proofs.Discovered.{discovered_step, discovered_leads, discovered_word}
use Rattle.promises.proofs.Automaton.{automaton}
use Rattle.promises.proofs.Rounds.{KeptAs}

-- a table whose steps are steps of another leads where the other does
part_run : {S L : Type 0} (part step : S → L → Option S) → ((s : S) (l : L) (t : S) → part s l ≡ some t → step s l ≡ some t)
    → (w : List L) (s t : S) → run part s w ≡ some t → run step s w ≡ some t
part_run part step each [] s t e = e
part_run part step each (l ∷ w) s t e =
    let (s', e', _) = first_step part s l w (is_some e) in
    run_cons step {l = l} w (each s l s' e') ∙ part_run part step each w s' t (sym (run_cons part {l = l} w e') ∙ e)

-- a kept step is the step itself
kept_step_lem : (kept : List Bool) (o : Option ℕ) (j : ℕ) → kept_step kept o ≡ some j → o ≡ some j
kept_step_lem kept none j e = e
kept_step_lem kept (some i) j e = go (is_kept kept i) e
  where
    go : (b : Bool) → (if b then some i else none) ≡ some j → some i ≡ some j
    go true e = e
    go false e = absurd (none-ne-some j e)

-- the list keeps what κ keeps of n states
kept_same : (n : ℕ) (kept : List Bool) (κ : ℕ → Bool) → KeptAs n kept κ → (o : Option ℕ) → ((j : ℕ) → o ≡ some j → j < n) → kept_step kept o ≡ if_kept κ o
kept_same n kept κ h none below = refl
kept_same n kept κ h (some j) below = rw (h.same j (below j refl)) (go (κ j))
  where
    go : (b : Bool) → (if b then some j else none) ≡ cond b (some j) none
    go true = refl
    go false = refl

-- `sets`, `next`: the plain table; `kept`: which of its states are kept
module _ (k : Skid) (sets next : List ℕ) (table : NextTable (length sets) next) (kept : List Bool) where
  -- numbers below a count are numbered afresh
  pub fresh_few : length (afresh k sets next kept).states ≤ length sets
  unfolding afresh
  fresh_few = (reached_known (length sets) 0 (kept_steps k next kept) table.occupied).listed.bounded

  few_enough : length (afresh k sets next kept).states ≤ absent
  few_enough = let s : length sets ≤ absent = table.few in omega (arith, fresh_few)

  pub fresh_table : NextTable (length (afresh k sets next kept).states) (afresh k sets next kept).next
  fresh_table = discovery_table (kept_steps k next kept) 0 (k.n_u * k.n_v) (afresh k sets next kept) (afresh_discovered k sets next kept table) few_enough

module _ (k : Skid) (asked : ℕ → ℕ → Bool) (sets next : List ℕ) (table : NextTable (length sets) next) (kept : List Bool) where
  abbrev fresh : Numbered
  fresh = afresh k sets next kept

  -- a step of the fresh table is the kept step of the state's old number
  fresh_step : (q : ℕ) → q < length fresh.states → (l : Letter (system k asked))
      → map (λ q. get_or fresh.states q 0) (table_step k asked fresh.next q l) ≡ kept_step kept (table_step k asked next (get_or fresh.states q 0) l)
  fresh_step = discovered_step k asked (step_on k next kept) 0 fresh (afresh_discovered k sets next kept table) (few_enough k sets next table kept)

  -- a word of the fresh table leads, in the plain table, to the old number of the state
  pub fresh_leads : (w : List (Letter (system k asked))) (q : ℕ) → run (table_step k asked (afresh k sets next kept).next) 0 w ≡ some q
      → run (table_step k asked next) 0 w ≡ some (get_or (afresh k sets next kept).states q 0)
  fresh_leads w q e = part_run (λ s l. kept_step kept (table_step k asked next s l)) (table_step k asked next) (λ s l. kept_step_lem kept (table_step k asked next s l)) w 0 _
      (discovered_leads k asked (step_on k next kept) 0 fresh (afresh_discovered k sets next kept table) (few_enough k sets next table kept) w q e)

  -- each state is reached by kept steps, so a word leads to it
  pub fresh_word : (q : ℕ) → q < length (afresh k sets next kept).states
      → (w : List (Letter (system k asked))) × (run (table_step k asked (afresh k sets next kept).next) 0 w ≡ some q)
  fresh_word = discovered_word k asked (step_on k next kept) 0 fresh (afresh_discovered k sets next kept table) (few_enough k sets next table kept)

module _ (k : Skid) (asked : ℕ → ℕ → Bool) (legal : Legal k) (d : Numbered)
    (found : Discovery (set_steps k) (start_set k) (k.n_u * k.n_v) d) (table : NextTable (length d.states) d.next)
    (kept : List Bool) (κ : ℕ → Bool) (h : KeptAs (length d.states) kept κ) where
  -- each step is that of the plain table to a kept state, or both are absent
  pub fresh_renamed : Renamed (system k asked) (automaton k asked legal d found table) κ (table_step k asked (afresh k d.states d.next kept).next) 0
  fresh_renamed = record {
    ok = λ q. q < length (afresh k d.states d.next kept).states;
    old = λ q. get_or (afresh k d.states d.next kept).states q 0;
    start_ok = (fresh_table k d.states d.next table kept).occupied;
    start_old = (afresh_discovered k d.states d.next kept table).start_first;
    next_ok = λ q _. step_below k asked _ _ (fresh_table k d.states d.next table kept) q;
    next_old = λ q hq l. fresh_step k asked d.states d.next table kept q hq l
        ∙ kept_same (length d.states) kept κ h (table_step k asked d.next _ l) (step_below k asked _ d.next table _ l);
  }
