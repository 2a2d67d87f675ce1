-- Lent buffers that begin with the sets and the steps of a table hold it as the promises say: where each word of it leads, in the set automaton, to the set
-- that stands at its state.
-- Assumes nothing.
use mathlib.Core.Path.{◌≡◌, subst, sym}
use mathlib.Core.Logic.{⊎_elim}
use mathlib.Core.List.{List, ◌∷◌, map}
use Prim.Native.Nat.{ℕ, ◌*◌, ◌≤◌, ◌<◌}
use lib.Dec.{T}
use lib.ListN.{length, get_or, get_or-eq_default}
use Rattle.words.specs.System.{Letter}
use Rattle.words.proofs.States.{run_ok, pair_after}
use Rattle.pairs.specs.Scans.{left}
use Rattle.pairs.specs.Sets.{member}
use Rattle.pairs.specs.Lent.{filled, encoded_sets}
use Rattle.pairs.proofs.Sets.{empty_set}
use Rattle.rules.specs.Limits.{set_numbers, next_numbers}
use Rattle.rules.specs.NextTables.{there}
use Rattle.rules.specs.Tables.{Skid, skid_of}
use Rattle.rules.specs.FirstDiscovery.{firsts, targets}
use Rattle.rules.specs.Continues.{every_input}
use Rattle.rules.specs.Meaning.{NextTable, Legal, system}
use Rattle.rules.proofs.Discover.{below_or_not}
use Rattle.verdicts.specs.Checkable.{skid_system}
use Rattle.promises.specs.Buffers.{LeadsTo, HoldTable}
use Rattle.promises.proofs.SamePairs.{below_only}
use Rattle.promises.proofs.SetAutomaton.{set_automaton, LeadsToSet, leads_same, reached_below}
use Rattle.promises.proofs.TableStates.{run_below}

module _ (context specification : List ℕ) (legal : Legal (skid_of context specification)) where
  abbrev k : Skid
  k = skid_of context specification

  -- the sets and the steps of a table of so many states
  pub record Numbers (states : ℕ) (reached table : List ℕ) : Type 0 where
    pub each_state : length reached ≡ states
    pub each_step : length table ≡ states * ((skid_of context specification).n_u * (skid_of context specification).n_v)
    pub steps : NextTable states table
    pub leads : (w : List (Letter (skid_system context specification))) (q : ℕ) → LeadsTo context specification table w q
        → LeadsToSet (skid_of context specification) every_input legal w (get_or reached q 0)
    pub words : (q : ℕ) → q < states → (w : List (Letter (skid_system context specification))) × LeadsTo context specification table w q
    pub distinct : (q q' : ℕ) → q < states → q' < states → get_or reached q 0 ≡ get_or reached q' 0 → q ≡ q'
    pub in_order : firsts (0 ∷ targets (map there table)) ≡ left 0 states

  module _ {states : ℕ} {reached table : List ℕ} (n : Numbers states reached table) where
    -- each set has places of pairs alone
    pairs_only : (q p : ℕ) → T (member p (get_or reached q 0)) → p < k.n_a * k.n_c
    pairs_only q p m = ⊎_elim inside (λ h. absurd (empty_set p (subst (λ s. T (member p s)) (get_or-eq_default reached 0 (subst (λ l. l ≤ q) (sym n.each_state) h)) m))) (below_or_not q states)
      where
        inside : q < states → p < k.n_a * k.n_c
        inside h =
            let (w, e) = n.words q h in
            below_only k (get_or reached q 0) (reached_below k legal (get_or reached q 0)
            (run_ok (system k every_input) (set_automaton k every_input legal) w (get_or reached q 0) (n.leads w q e))) p m

    pub hold_table : (sets next sets' next' : List ℕ) → sets' ≡ filled set_numbers (encoded_sets reached) sets → next' ≡ filled next_numbers table next
        → HoldTable context specification states sets next sets' next'
    unfolding skid_of
    hold_table sets next sets' next' is_sets is_next = record {
      reached = reached;
      table = table;
      sets_are = is_sets;
      next_is = is_next;
      each_state = n.each_state;
      each_step = n.each_step;
      steps = n.steps;
      exactly = λ w q e. pair_after (system k every_input) (set_automaton k every_input legal) w (get_or reached q 0) (n.leads w q e);
      only_pairs = pairs_only;
      each_reached = n.words;
      different = λ w w' q q' e e' same. n.distinct q q' (run_below k every_input states table n.steps w q e) (run_below k every_input states table n.steps w' q' e')
          ((leads_same k every_input legal w w' (get_or reached q 0) (get_or reached q' 0) (n.leads w q e) (n.leads w' q' e')).1 same);
      first_discovery = n.in_order;
    }
