-- The sets of pairs that are reached, with their steps, are the set automaton of the skid, however many they are; the plain answer has one set too many
-- exactly where more than 512 plain words reach pairwise different sets.
-- Assumes nothing.
use mathlib.Core.Path.{◌≡◌, refl, sym, ap, subst}
use mathlib.Core.Logic.{◌↔◌}
use mathlib.Core.Bool.{Bool, true}
use mathlib.Core.Option.{some}
use mathlib.Core.List.Memᴰ
use mathlib.Core.List.{List, [], ◌∷◌, Memᴰ}
use Prim.Native.Nat.{ℕ, zero, suc, ◌*◌, ◌^◌, ◌<◌}
use native.Mathlib.Nat.{not-suc-le-zero, le_of_suc-le-suc}
use native.Mathlib.Omega.{arith}
use lib.ListN.{length, get_or}
use Rattle.words.specs.Words.{run}
use Rattle.words.specs.System.{Letter}
use Rattle.words.specs.Sets.{SetAutomaton}
use Rattle.words.specs.States.{PairAfter, SameSet, MoreSets}
use Rattle.words.proofs.Words.{is_some}
use Rattle.words.proofs.Subset.{plain_iff_runs}
use Rattle.words.proofs.States.{run_ok, pair_after, plain_leads}
use Rattle.rules.specs.Limits.{state_limit}
use Rattle.rules.specs.Tables.{Skid, letters}
use Rattle.rules.specs.Reached.{Reaches, MoreThan}
use Rattle.rules.specs.Meaning.{Legal, system, letter_of, InSet}
use Rattle.rules.proofs.Places.{start_pair}
use Rattle.rules.proofs.Letters.{letter_listed}
use Rattle.rules.proofs.ReachedWords.{reached_word}
use Rattle.answers.specs.Plain.{after, start_set, plain}
use Rattle.answers.proofs.Plain.{set_steps, plain_discovered}
use Rattle.answers.proofs.After.{afters_below, start_below}
use Rattle.promises.proofs.SamePairs.{below_only, pairs_same}
use Rattle.promises.proofs.Steps.{after_law}

-- a list of what each element of a list has
pub chosen : {A B : Type 0} (R : A → B → Type 0) (d : A) (e : B) (xs : List A) → ((i : ℕ) → i < length xs → (y : B) × R (get_or xs i d) y)
    → (ys : List B) × (length ys ≡ length xs) × ((i : ℕ) → i < length xs → R (get_or xs i d) (get_or ys i e))
chosen R d e [] has = ([], refl, λ i h. absurd (not-suc-le-zero h))
chosen {B = B} R d e (x ∷ xs) has = go (has 0 (omega arith)) (chosen R d e xs (λ i h. has (suc i) (omega arith)))
  where
    go : (y : B) × R x y → (ys : List B) × (length ys ≡ length xs) × ((i : ℕ) → i < length xs → R (get_or xs i d) (get_or ys i e))
        → (ys : List B) × (length ys ≡ suc (length xs)) × ((i : ℕ) → i < suc (length xs) → R (get_or (x ∷ xs) i d) (get_or ys i e))
    go (y, r) (ys, n, rs) = (y ∷ ys, ap suc n, at)
      where
        at : (i : ℕ) → i < suc (length xs) → R (get_or (x ∷ xs) i d) (get_or (y ∷ ys) i e)
        at zero h = r
        at (suc i) h = rs i (le_of_suc-le-suc h)

module _ (k : Skid) (legal : Legal k) where
  pub reached_below : (s : ℕ) → Reaches (set_steps k) (start_set k) s → s < 2 ^ (k.n_a * k.n_c)
  reached_below s Reaches.here = start_below k legal
  reached_below s (Reaches.onward {x = x} r m) = afters_below k legal x (letters k) (some s) m

  -- "Start: the single pair (0, 0)."
  pub start_set_lem : (a c : ℕ) → InSet k (start_set k) a c ↔ ((a ≡ 0) × (c ≡ 0))
  unfolding start_set
  start_set_lem a c = start_pair k legal a c

module _ (k : Skid) (asked : ℕ → ℕ → Bool) where
  -- a step over a letter is one of the steps of the set
  pub letter_step : (s : ℕ) (l : Letter (system k asked)) (s' : ℕ) → after k s (letter_of k asked l) ≡ some s' → Memᴰ (some s') (set_steps k s)
  letter_step s l s' e = Memᴰ.cast (sym e) (Memᴰ.map (after k s) (letter_listed k asked l))

  module _ (legal : Legal k) where
    abbrev pub set_automaton : SetAutomaton (system k asked)
    set_automaton = record {
      Q = ℕ;
      ok = Reaches (set_steps k) (start_set k);
      has = InSet k;
      start = start_set k;
      next = λ q l. after k q (letter_of k asked l);
      start_ok = Reaches.here;
      next_ok = λ q r l q' e. Reaches.onward r (letter_step q l q' e);
      start_has = start_set_lem k legal;
      next_has = λ q _ l. after_law k asked legal q l;
    }

    -- the word leads to the set s
    abbrev pub LeadsToSet : List (Letter (system k asked)) → ℕ → Type 0
    LeadsToSet w s = run set_automaton.next (start_set k) w ≡ some s

    -- two words lead to one set exactly where they reach the same pairs
    pub leads_same : (w w' : List (Letter (system k asked))) (s s' : ℕ) → LeadsToSet w s → LeadsToSet w' s' → (s ≡ s') ↔ SameSet (system k asked) w w'
    leads_same w w' s s' e e' = (
      λ same a c. (
        λ h. (held' a c).0 (subst (λ s. InSet k s a c) same ((held a c).1 h)),
        λ h. (held a c).0 (subst (λ s. InSet k s a c) (sym same) ((held' a c).1 h)),
      ),
      λ h. pairs_same k s s' (below_only k s (below w s e)) (below_only k s' (below w' s' e')) (λ a c. (λ m. (held' a c).1 ((h a c).0 ((held a c).0 m)), λ m. (held a c).1 ((h a c).1 ((held' a c).0 m)))),
    )
      where
        held : (a c : ℕ) → InSet k s a c ↔ PairAfter (system k asked) w a c
        held = pair_after (system k asked) set_automaton w s e

        held' : (a c : ℕ) → InSet k s' a c ↔ PairAfter (system k asked) w' a c
        held' = pair_after (system k asked) set_automaton w' s' e'

        below : (w : List (Letter (system k asked))) (s : ℕ) → LeadsToSet w s → s < 2 ^ (k.n_a * k.n_c)
        below w s e = reached_below k legal s (run_ok (system k asked) set_automaton w s e)

    -- different sets are reached by words that reach different pairs
    sets_words : (n : ℕ) → MoreThan n (Reaches (set_steps k) (start_set k)) → MoreSets (system k asked) n
    sets_words n (xs, more, different) =
        let (ws, size, leads) = chosen (λ s w. LeadsToSet w s) 0 [] xs (λ i h. reached_word k asked (after k) (start_set k) (get_or xs i 0) (different.each i h)) in
        record {
          words = ws;
          more = subst (λ m. n < m) (sym size) more;
          plain = λ i h. (plain_iff_runs (system k asked) set_automaton (get_or ws i [])).1 (is_some (leads i (subst (λ m. i < m) size h)));
          different = λ i j hi hj same.
              let hi' : i < length xs = subst (λ m. i < m) size hi in
              let hj' : j < length xs = subst (λ m. j < m) size hj in
              different.distinct i j hi' hj' ((leads_same (get_or ws i []) (get_or ws j []) (get_or xs i 0) (get_or xs j 0) (leads i hi') (leads j hj')).1 same);
        }

    -- plain words that reach different pairs lead to different sets
    words_sets : (n : ℕ) → MoreSets (system k asked) n → MoreThan n (Reaches (set_steps k) (start_set k))
    words_sets n y =
        let (xs, size, leads) = chosen LeadsToSet [] 0 y.words (λ i h. let q = plain_leads (system k asked) set_automaton (get_or y.words i []) (y.plain i h) in (q.0, q.1)) in (
          xs,
          subst (λ m. n < m) (sym size) y.more,
          record {
            distinct = λ i j hi hj same.
                let hi' : i < length y.words = subst (λ m. i < m) size hi in
                let hj' : j < length y.words = subst (λ m. j < m) size hj in
                y.different i j hi' hj' ((leads_same (get_or y.words i []) (get_or y.words j []) (get_or xs i 0) (get_or xs j 0) (leads i hi') (leads j hj')).0 same);
            each = λ i h. run_ok (system k asked) set_automaton (get_or y.words i []) (get_or xs i 0) (leads i (subst (λ m. i < m) size h));
          },
        )

    -- "more than 512 plain states"
    pub too_many_exactly : ((plain k).over ≡ true) ↔ MoreSets (system k asked) state_limit
    too_many_exactly = (
      λ e. sets_words state_limit ((plain_discovered k).1.0 e),
      λ y. (plain_discovered k).1.1 (words_sets state_limit y),
    )
