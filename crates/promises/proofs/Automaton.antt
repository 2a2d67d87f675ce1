-- The table of the sets that are reached is a set automaton of the theory, so its words are the plain answer; and each of its states has a word that
-- leads to it. Said of any discovery of these sets whose steps are a next table of its states: `plain k` is one.
-- Assumes nothing.
use mathlib.Core.Path.{◌≡◌, sym, subst}
use mathlib.Core.Logic.{◌↔◌}
use mathlib.Core.Bool.{Bool}
use mathlib.Core.Option.{Option, none, some, map}
use mathlib.Core.List.{List}
use Prim.Native.Nat.{ℕ, ◌*◌, ◌<◌}
use lib.ListN.{length, get_or}
use Rattle.words.specs.Words.{run}
use Rattle.words.specs.System.{Letter, Plain}
use Rattle.words.specs.Sets.{StepLaw, SetAutomaton}
use Rattle.words.proofs.Subset.{plain_iff_runs}
use Rattle.rules.specs.Tables.{Skid}
use Rattle.rules.specs.Discover.{Numbered}
use Rattle.rules.specs.FirstDiscovery.{Discovery}
use Rattle.rules.specs.Meaning.{NextTable, Legal, system, table_step, TableWords, InSet}
use Rattle.rules.proofs.Places.{start_pair}
use Rattle.rules.proofs.Rows.{entry_below}
use Rattle.answers.specs.Plain.{after, start_set}
use Rattle.answers.proofs.Plain.{set_steps}
use Rattle.promises.proofs.Steps.{after_law}
use Rattle.promises.proofs.Discovered.{discovered_step, discovered_word}

module _ (k : Skid) (asked : ℕ → ℕ → Bool) (legal : Legal k) (d : Numbered)
    (found : Discovery (set_steps k) (start_set k) (k.n_u * k.n_v) d) (table : NextTable (length d.states) d.next) where
  abbrev n : ℕ
  n = length d.states

  -- the set of a state, and its pairs
  abbrev set : ℕ → ℕ
  set q = get_or d.states q 0

  abbrev has : ℕ → ℕ → ℕ → Type 0
  has q = InSet k (set q)

  abbrev step : ℕ → Letter (system k asked) → Option ℕ
  step = table_step k asked d.next

  -- "Start: the single pair (0, 0)."
  pub start_has : (a c : ℕ) → has 0 a c ↔ ((a ≡ 0) × (c ≡ 0))
  unfolding start_set
  start_has a c = subst (λ s. InSet k s a c ↔ ((a ≡ 0) × (c ≡ 0))) (sym found.start_first) (start_pair k legal a c)

  -- the step of a state leads to the number of the set after the letter
  pub next_has : (q : ℕ) → q < n → (l : Letter (system k asked)) → StepLaw (system k asked) has q l (step q l)
  next_has q h l = go (step q l) (subst (StepLaw (system k asked) (InSet k) (set q) l) (sym (discovered_step k asked (after k) (start_set k) d found table.few q h l)) (after_law k asked legal (set q) l))
    where
      go : (o : Option ℕ) → StepLaw (system k asked) (InSet k) (set q) l (map set o) → StepLaw (system k asked) has q l o
      go none law = law
      go (some q') law = law

  abbrev pub automaton : SetAutomaton (system k asked)
  automaton = record {
    Q = ℕ;
    ok = λ q. q < n;
    has = has;
    start = 0;
    next = step;
    start_ok = table.occupied;
    next_ok = λ q h l q' e. entry_below n d.next table _ q' e;
    start_has = start_has;
    next_has = next_has;
  }

  -- the words that it runs are the plain answer
  pub table_plain : (w : List (Letter (system k asked))) → Plain (system k asked) w ↔ TableWords k asked d.next w
  table_plain w = plain_iff_runs (system k asked) automaton w

  pub each_state_word : (q : ℕ) → q < length d.states → (w : List (Letter (system k asked))) × (run (table_step k asked d.next) 0 w ≡ some q)
  each_state_word = discovered_word k asked (after k) (start_set k) d found table.few
