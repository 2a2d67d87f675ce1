-- The table of a discovery over letters: a word leads in it to the number of the state to which the steps themselves lead, and each numbered state
-- has such a word. For the plain table these are the steps between sets, for the fresh one the kept steps of the plain table.
-- Assumes nothing.
use mathlib.Core.Path.{◌≡◌, refl, sym, ap, subst, ◌∙◌}
use mathlib.Core.Bool.{Bool}
use mathlib.Core.Option
use mathlib.Core.Option.{Option, none, some, map-eq-some_iff}
use mathlib.Core.List.{List, [], ◌∷◌, map}
use Prim.Native.Nat.{ℕ, ◌*◌, ◌≤◌, ◌<◌}
use native.Mathlib.Omega.{arith}
use lib.ListN.{length, get_or}
use borrow.Author.Tests.{ne_eqb}
use Rattle.words.specs.Words.{onward, run}
use Rattle.words.specs.System.{Letter}
use Rattle.pairs.proofs.Lists.{part_below, get_d_map, length_left, get_d_left}
use Rattle.rules.specs.Limits.{absent}
use Rattle.rules.specs.NextTables.{there}
use Rattle.rules.specs.Tables.{Skid, letters, next_at}
use Rattle.rules.specs.Discover.{Numbered}
use Rattle.rules.specs.FirstDiscovery.{Leads, Discovery}
use Rattle.rules.specs.Meaning.{NextTable, system, letter_of, table_step}
use Rattle.rules.proofs.ReachedWords.{reached_word}
use Rattle.rules.proofs.DiscoveryTable.{discovery_table}
use Rattle.promises.proofs.TableStates.{step_below, run_below}

-- the entry for a step names the state to which it leads
entry_named : (xs : List ℕ) → length xs ≤ absent → (o : Option ℕ) (j : ℕ) → Leads xs o j → Option.map (λ q. get_or xs q 0) (there j) ≡ o
entry_named xs few none j e = rw e
entry_named xs few (some x) j e = rw (ne_eqb j absent (λ z. let h : j < length xs = e.0 in omega arith)) (ap some e.1)

-- `step s t`: where the letter at place t leads from the state s
module _ (k : Skid) (asked : ℕ → ℕ → Bool) (step : ℕ → ℕ → Option ℕ) (start : ℕ) (d : Numbered)
    (found : Discovery (λ s. map (step s) (letters k)) start (k.n_u * k.n_v) d) (few : length d.states ≤ absent) where
  -- the steps by letters, and the state of a number
  abbrev by : ℕ → Letter (system k asked) → Option ℕ
  by s l = step s (letter_of k asked l)

  abbrev state : ℕ → ℕ
  state q = get_or d.states q 0

  discovered_table : NextTable (length d.states) d.next
  discovered_table = discovery_table _ start (k.n_u * k.n_v) d found few

  step_listed : (s t : ℕ) → t < k.n_u * k.n_v → get_or (map (step s) (letters k)) t none ≡ step s t
  unfolding letters
  step_listed s t h = get_d_map (step s) (letters k) t none 0 (rw length_left h) ∙ ap (step s) (get_d_left (k.n_u * k.n_v) t 0 h)

  -- the entry of a letter is the number of the state to which the letter leads
  pub discovered_step : (q : ℕ) → q < length d.states → (l : Letter (system k asked))
      → Option.map (λ q. get_or d.states q 0) (table_step k asked d.next q l) ≡ step (get_or d.states q 0) (letter_of k asked l)
  discovered_step q h l =
      let t : ℕ = letter_of k asked l in
      let ht : t < k.n_u * k.n_v = part_below k.n_v k.n_u l.0.0 l.1.0 l.0.1 l.1.1 in
      entry_named d.states few (step (state q) t) (next_at k d.next q t)
      (subst (λ o. Leads d.states o (next_at k d.next q t)) (step_listed (state q) t ht) (found.steps q t h ht))

  -- letter by letter
  run_from : (w : List (Letter (system k asked))) (q : ℕ) → q < length d.states → Option.map state (run (table_step k asked d.next) q w) ≡ run by (state q) w
  run_from [] q h = refl
  run_from (l ∷ w) q h =
      go (table_step k asked d.next q l) (λ q' e. run_from w q' (step_below k asked (length d.states) d.next discovered_table q l q' e)) ∙ ap (λ o. onward o (λ s. run by s w)) (discovered_step q h l)
    where
      go : (o : Option ℕ) → ((q' : ℕ) → o ≡ some q' → Option.map state (run (table_step k asked d.next) q' w) ≡ run by (state q') w)
          → Option.map state (onward o (λ q'. run (table_step k asked d.next) q' w)) ≡ onward (Option.map state o) (λ s. run by s w)
      go none rest = refl
      go (some q') rest = rest q' refl

  pub discovered_run : (w : List (Letter (system k asked)))
      → Option.map (λ q. get_or d.states q 0) (run (table_step k asked d.next) 0 w) ≡ run (λ s l. step s (letter_of k asked l)) start w
  discovered_run w = run_from w 0 discovered_table.occupied ∙ ap (λ s. run by s w) found.start_first

  -- where a word leads in the table, the steps lead to the state of that number
  pub discovered_leads : (w : List (Letter (system k asked))) (q : ℕ) → run (table_step k asked d.next) 0 w ≡ some q
      → run (λ s l. step s (letter_of k asked l)) start w ≡ some (get_or d.states q 0)
  discovered_leads w q e = sym (discovered_run w) ∙ ap (Option.map state) e

  -- the word by which steps reach the state leads to it in the table too, where no other number has this state
  pub discovered_word : (q : ℕ) → q < length d.states → (w : List (Letter (system k asked))) × (run (table_step k asked d.next) 0 w ≡ some q)
  discovered_word q h =
      let (w, e) = reached_word k asked step start (state q) (found.reached q h) in
      let (q', e', same) = (map-eq-some_iff state (run (table_step k asked d.next) 0 w)).0 (discovered_run w ∙ e) in
      (w, e' ∙ ap some (found.different q' q (run_below k asked (length d.states) d.next discovered_table w q' e') h same))
