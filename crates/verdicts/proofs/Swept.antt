-- After n sweeps from the start the sets hold exactly the triples that combined words of at most n steps reach, "within the specification
-- whose controller word the controller can run".
-- Assumes nothing.
use mathlib.Core.Path.{◌≡◌, refl, sym, ap, subst, ◌∙◌}
use mathlib.Core.Logic.{◌↔◌, ◌⊎◌, inl, inr, ⊎_elim}
use mathlib.Core.Bool.{Bool}
use mathlib.Core.Option.{some, some-injective}
use mathlib.Core.List.{List, [], ◌∷◌}
use Prim.Native.Nat.{ℕ, zero, suc, ◌+◌, ◌*◌, ◌≤◌, ◌<◌}
use native.Mathlib.Nat.{eq-or-lt_of_le, zero-add}
use native.Mathlib.Decide.{ℕ_discrete}
use native.Mathlib.Omega.{arith}
use lib.Dec.{T}
use lib.ListN.{length, get_or, set, replicate, length-append, length-set, length-replicate, get_or-replicate}
use lib.Seq.{get_or-set_same, get_or-set_other}
use Rattle.words.specs.Words.{run}
use Rattle.words.specs.System.{letter, controller_word, outside_word}
use Rattle.words.specs.Fit.{Triple}
use Rattle.words.proofs.Words.{is_some, first_step, run_cons}
use Rattle.words.proofs.Fit.{triple_last}
use Rattle.pairs.specs.Sets.{member, add, empty, pair_place}
use Rattle.pairs.proofs.Lists.{part_below}
use Rattle.pairs.proofs.Sets.{empty_set}
use Rattle.rules.specs.Tables.{Skid}
use Rattle.rules.specs.Meaning.{NextTable, Legal, system, InSet, table_step}
use Rattle.rules.proofs.NextTables.{get_d_replicate_same}
use Rattle.rules.proofs.Places.{start_pair}
use Rattle.verdicts.specs.Triples.{sweep, start_sets}
use Rattle.verdicts.proofs.Adds.{Has, adds_one}
use Rattle.verdicts.proofs.Sweep.{Held, Further, sweep_adds, added_pair, sweep_law_lem, sweep_length}

-- n sweeps from the start
module _ (k : Skid) (states : ℕ) (next : List ℕ) where
  abbrev pub swept : ℕ → List ℕ
  swept zero = start_sets k states
  swept (suc n) = sweep k states next (swept n)

module _ (k : Skid) (asked : ℕ → ℕ → Bool) (next : List ℕ) where
  -- a combined word within the specification that the next table runs leads to this triple
  abbrev pub Reached : ℕ → ℕ → ℕ → Type 0
  Reached = Triple (system k asked) (table_step k asked next) 0

  -- one of at most n steps does
  abbrev pub ReachedBy : ℕ → ℕ → ℕ → ℕ → Type 0
  ReachedBy n a c d = (t : Reached a c d) × (length t.0 ≤ n)

  -- what holds along a combined word, where it goes on by a joint step
  module _ (P : ℕ → ℕ → ℕ → ℕ → Type 0) (on : (m a c d : ℕ) → Further k asked next (P m) a c d → P (suc m) a c d) where
    pub along : (α : List (system k asked).Step) (m a c d a' c' d' : ℕ) → P m a c d → run (system k asked).ctx a α ≡ some a'
        → run (system k asked).spc c (outside_word (system k asked) α) ≡ some c' → run (table_step k asked next) d (controller_word (system k asked) α) ≡ some d' → P (m + length α) a' c' d'
    along [] m a c d a' c' d' h ea ec ed =
        let z : m ≡ m + 0 = omega arith in
        subst (λ m. P m a' c' d') z (subst (λ a. P m a c' d') (some-injective a a' ea) (subst (λ c. P m a c d') (some-injective c c' ec) (subst (λ d. P m a c d) (some-injective d d' ed) h)))
    along (x ∷ α) m a c d a' c' d' h ea ec ed =
        let (a₁, fa, _) = first_step (system k asked).ctx a x α (is_some ea) in
        let (c₁, fc, _) = first_step (system k asked).spc c ((system k asked).outside x) (outside_word (system k asked) α) (is_some ec) in
        let (d₁, fd, _) = first_step (table_step k asked next) d (letter (system k asked) x) (controller_word (system k asked) α) (is_some ed) in
        let z : suc m + length α ≡ m + suc (length α) = omega arith in
        subst (λ m. P m a' c' d') z
        (along α (suc m) a₁ c₁ d₁ a' c' d' (on m a₁ c₁ d₁ (record { a = a; c = c; d = d; x = x; from = h; context = fa; specification = fc; controller = fd }))
        (sym (run_cons (system k asked).ctx {l = x} α fa) ∙ ea)
        (sym (run_cons (system k asked).spc {l = (system k asked).outside x} (outside_word (system k asked) α) fc) ∙ ec)
        (sym (run_cons (table_step k asked next) {l = letter (system k asked) x} (controller_word (system k asked) α) fd) ∙ ed))

module _ (k : Skid) (asked : ℕ → ℕ → Bool) (legal : Legal k) (states : ℕ) (next : List ℕ) (table : NextTable states next) where
  -- the start holds the triple (0, 0, 0) alone
  start_in : (a c d : ℕ) → Held k states (swept k states next 0) a c d ↔ ((a ≡ 0) × (c ≡ 0) × (d ≡ 0))
  unfolding start_sets
  start_in a c d = (
    go (ℕ_discrete d 0),
    λ h. let e : get_or (set (replicate states empty) 0 one) d 0 ≡ one = ap (λ d. get_or (set (replicate states empty) 0 one) d 0) h.2 ∙ at_start in
        (rw h.2 table.occupied, subst (λ s. InSet k s a c) (sym e) ((start_pair k legal a c).1 (h.0, h.1))),
  )
    where
      one : ℕ
      one = add (pair_place k.n_c 0 0) empty

      at_start : get_or (set (replicate states empty) 0 one) 0 0 ≡ one
      at_start = get_or-set_same (replicate states empty) 0 one 0 (rw length-replicate table.occupied)

      go : Dec (d ≡ 0) → Held k states (set (replicate states empty) 0 one) a c d → (a ≡ 0) × (c ≡ 0) × (d ≡ 0)
      go (yes e) h =
          let (ea, ec) = (start_pair k legal a c).0 (subst (λ s. InSet k s a c) (ap (λ d. get_or (set (replicate states empty) 0 one) d 0) e ∙ at_start) h.1) in
          (ea, ec, e)
      go (no n) h = absurd (empty_set (pair_place k.n_c a c) (subst (λ s. T (member (pair_place k.n_c a c) s)) (get_or-set_other (replicate states empty) 0 d one 0 n ∙ get_or-replicate states d 0 0 h.0) h.1.2))

  pub swept_length : (n : ℕ) → length (swept k states next n) ≡ states
  unfolding start_sets
  swept_length zero = length-set (replicate states empty) 0 (add (pair_place k.n_c 0 0) empty) ∙ length-replicate states 0
  swept_length (suc n) = sweep_length k asked legal states next table (swept k states next n) (swept_length n)

  -- the sets hold places of pairs and no others
  pub swept_pairs : (n d q : ℕ) → Has (swept k states next n) d q → q < k.n_a * k.n_c
  unfolding start_sets
  swept_pairs zero d q m = ⊎_elim
      (λ h. absurd (empty_set q (subst (λ s. T (member q s)) (get_d_replicate_same states d 0) h)))
      (λ h. subst (λ q. q < k.n_a * k.n_c) (sym h.1) (part_below k.n_c k.n_a 0 0 legal.context_start legal.specification_table_lem.occupied))
      (((adds_one (replicate states empty) 0 (pair_place k.n_c 0 0) (rw length-replicate table.occupied)).1 d q).0 (subst (λ s. T (member q (get_or (set (replicate states empty) 0 (add (pair_place k.n_c 0 0) s)) d 0))) (sym (get_d_replicate_same states 0 0)) m))
  swept_pairs (suc n) d q m = ⊎_elim (swept_pairs n d q) (added_pair k asked legal states next table (swept k states next n) d q)
      (((sweep_adds k asked legal states next table (swept k states next n) (swept_length n)).1 d q).0 m)

  -- one sweep more
  swept_law : (n a c d : ℕ) → Held k states (swept k states next (suc n)) a c d ↔ (Held k states (swept k states next n) a c d ⊎ Further k asked next (Held k states (swept k states next n)) a c d)
  swept_law n = sweep_law_lem k asked legal states next table (swept k states next n) (swept_length n)

  pub swept_reached : (n a c d : ℕ) → Held k states (swept k states next n) a c d → ReachedBy k asked next n a c d
  unfolding triple_last
  swept_reached zero a c d h =
      let (ea, ec, ed) = (start_in a c d).0 h in
      (([], ap some (sym ea), ap some (sym ec), ap some (sym ed)), omega arith)
  swept_reached (suc n) a c d h = ⊎_elim
      (λ h. let (t, l) = swept_reached n a c d h in (t, omega arith))
      (λ f. let (t, l) = swept_reached n f.a f.c f.d f.from in
      (triple_last (system k asked) (table_step k asked next) 0 f.x t f.context f.specification f.controller, rw length-append (omega arith)))
      ((swept_law n a c d).0 h)

  swept_later : (m n a c d : ℕ) → m ≤ n → Held k states (swept k states next m) a c d → Held k states (swept k states next n) a c d
  swept_later m zero a c d h i = let z : m ≡ 0 = omega arith in subst (λ m. Held k states (swept k states next m) a c d) z i
  swept_later m (suc n) a c d h i = ⊎_elim
      (λ e. subst (λ m. Held k states (swept k states next m) a c d) e i)
      (λ l. (swept_law n a c d).1 (inl (swept_later m n a c d (omega arith) i)))
      (eq-or-lt_of_le h)

  -- the start is in the sets after every number of sweeps
  pub swept_start : (n : ℕ) → Held k states (swept k states next n) 0 0 0
  swept_start n = swept_later 0 n 0 0 0 (omega arith) ((start_in 0 0 0).1 (refl, refl, refl))

  pub swept_exactly : (n a c d : ℕ) → Held k states (swept k states next n) a c d ↔ ReachedBy k asked next n a c d
  swept_exactly n a c d = (
    swept_reached n a c d,
    λ r. let (t, l) = r in
        swept_later (length t.0) n a c d l
        (subst (λ m. Held k states (swept k states next m) a c d) (zero-add (length t.0))
        (along k asked next (λ m. Held k states (swept k states next m)) (λ m a c d f. (swept_law m a c d).1 (inr f))
        t.0 0 0 0 0 a c d (swept_start 0) t.1 t.2 t.3)),
  )
