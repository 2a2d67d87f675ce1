-- The plain table and the fresh table of kept states are tables as the promises hold them: each word leads to the state of the set that it reaches, each
-- state has a word, no set stands twice, and the states are met in the order of their numbers.
-- Assumes nothing.
use mathlib.Core.Path.{◌≡◌, refl, sym, ap, ◌∙◌}
use mathlib.Core.Bool.{Bool, false}
use mathlib.Core.Option.{Option, some}
use mathlib.Core.List.{List, map}
use Prim.Native.Nat.{ℕ, ◌*◌, ◌≤◌, ◌<◌}
use native.Mathlib.Omega.{arith}
use lib.ListN.{length, get_or, length-map}
use Rattle.words.specs.System.{Letter}
use Rattle.pairs.specs.Sets.{empty}
use Rattle.pairs.proofs.Lists.{get_d_map, length_left}
use Rattle.rules.specs.Limits.{absent}
use Rattle.rules.specs.Tables.{Skid, skid_of, letters}
use Rattle.rules.specs.Discover.{Numbered}
use Rattle.rules.specs.FirstDiscovery.{Discovery}
use Rattle.rules.specs.Continues.{every_input}
use Rattle.rules.specs.Meaning.{NextTable, Legal}
use Rattle.rules.proofs.ReadInOrder.{read_in_order}
use Rattle.answers.specs.Plain.{after, start_set, plain}
use Rattle.answers.specs.Unblocked.{step_on, sets_of, afresh}
use Rattle.answers.proofs.Plain.{set_steps, plain_discovered}
use Rattle.answers.proofs.Afresh.{kept_steps, plain_table, unblocked_discovered}
use Rattle.verdicts.specs.Checkable.{skid_system}
use Rattle.promises.specs.Buffers.{LeadsTo}
use Rattle.promises.proofs.SetAutomaton.{LeadsToSet}
use Rattle.promises.proofs.TableStates.{run_below}
use Rattle.promises.proofs.Discovered.{discovered_leads, discovered_word}
use Rattle.promises.proofs.Fresh.{fresh_few, fresh_table, fresh_leads, fresh_word}
use Rattle.promises.proofs.Holds.{Numbers}

-- each state has a step for each letter
wide : (k : Skid) (step : ℕ → ℕ → Option ℕ) (s : ℕ) → length (map (step s) (letters k)) ≡ k.n_u * k.n_v
unfolding letters
wide k step s = length-map (letters k) (step s) ∙ length_left (k.n_u * k.n_v)

module _ (context specification : List ℕ) (legal : Legal (skid_of context specification)) (found : (plain (skid_of context specification)).over ≡ false) where
  abbrev k : Skid
  k = skid_of context specification

  abbrev d : Numbered
  d = plain k

  discovery : Discovery (set_steps k) (start_set k) (k.n_u * k.n_v) d
  discovery = (plain_discovered k).0 found

  table : NextTable (length d.states) d.next
  table = plain_table k found

  pub plain_numbers : Numbers context specification legal (length (plain (skid_of context specification)).states) (plain (skid_of context specification)).states
      (plain (skid_of context specification)).next
  plain_numbers = record {
    each_state = refl;
    each_step = discovery.size;
    steps = table;
    leads = discovered_leads k every_input (after k) (start_set k) d discovery table.few;
    words = discovered_word k every_input (after k) (start_set k) d discovery table.few;
    distinct = discovery.different;
    in_order = read_in_order (set_steps k) (start_set k) (k.n_u * k.n_v) d discovery (λ s _. wide k (after k) s) table.few;
  }

  -- whatever is kept
  module _ (kept : List Bool) where
    abbrev f : Numbered
    f = afresh k d.states d.next kept

    -- a state of the fresh table is one of the plain table, and has its set
    old_below : (q : ℕ) → q < length f.states → get_or f.states q 0 < length d.states
    old_below q h =
        let (w, e) = fresh_word k every_input d.states d.next table kept q h in
        run_below k every_input (length d.states) d.next table w (get_or f.states q 0) (fresh_leads k every_input d.states d.next table kept w q e)

    set_at : (q : ℕ) → q < length f.states → get_or (sets_of d.states f.states) q 0 ≡ get_or d.states (get_or f.states q 0) 0
    unfolding sets_of
    set_at q h = get_d_map (λ s. get_or d.states s empty) f.states q 0 0 h

    few : length f.states ≤ absent
    few = let n : length d.states ≤ absent = table.few in omega (arith, fresh_few k d.states d.next table kept)

    pub fresh_numbers : Numbers context specification legal (length (afresh (skid_of context specification) (plain (skid_of context specification)).states (plain (skid_of context specification)).next kept).states)
        (sets_of (plain (skid_of context specification)).states (afresh (skid_of context specification) (plain (skid_of context specification)).states (plain (skid_of context specification)).next kept).states)
        (afresh (skid_of context specification) (plain (skid_of context specification)).states (plain (skid_of context specification)).next kept).next
    unfolding sets_of
    fresh_numbers = record {
      each_state = length-map f.states (λ s. get_or d.states s empty);
      each_step = (unblocked_discovered k found kept).size;
      steps = fresh_table k d.states d.next table kept;
      leads = leads;
      words = fresh_word k every_input d.states d.next table kept;
      distinct = λ q q' h h' e. (unblocked_discovered k found kept).different q q' h h'
          (discovery.different (get_or f.states q 0) (get_or f.states q' 0) (old_below q h) (old_below q' h') (sym (set_at q h) ∙ e ∙ set_at q' h'));
      in_order = read_in_order (kept_steps k d.next kept) 0 (k.n_u * k.n_v) f (unblocked_discovered k found kept) (λ s _. wide k (step_on k d.next kept) s) few;
    }
      where
        leads : (w : List (Letter (skid_system context specification))) (q : ℕ) → LeadsTo context specification f.next w q
            → LeadsToSet k every_input legal w (get_or (sets_of d.states f.states) q 0)
        leads w q e = discovered_leads k every_input (after k) (start_set k) d discovery table.few w (get_or f.states q 0) (fresh_leads k every_input d.states d.next table kept w q e)
            ∙ ap some (sym (set_at q (run_below k every_input (length f.states) f.next (fresh_table k d.states d.next table kept) w q e)))
