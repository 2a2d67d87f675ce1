-- The step between sets of the definitions is that of the set automaton: absent exactly if it leaves the specification, otherwise it leads to exactly
-- the pairs reached.
-- Assumes nothing.
use Rattle.std.specs.Prelude.{if◌then◌else◌}
use mathlib.Core.Path.{◌≡◌, refl, sym, ap, subst, ◌∙◌}
use mathlib.Core.Logic.{inl, inr, ⊎_elim}
use mathlib.Core.Bool.{Bool, true, false, ◌&&◌}
use mathlib.Core.Option.{Option, none, some, some-ne-none, some-injective}
use mathlib.Core.List.{List, foldl, Memᴰ}
use Prim.Native.Nat.{ℕ, ◌<◌}
use lib.Dec.{T, eqb, eqb→eq}
use mir.Facts.{yes_eqb, and_yes, yes_and}
use Rattle.words.specs.System.{Letter, letter}
use Rattle.words.specs.Sets.{Leaves, Reached, StepLaw}
use Rattle.words.proofs.Words.{known, is_some}
use Rattle.pairs.specs.Sets.{member, empty, pair_place, context_of, specification_of}
use Rattle.pairs.proofs.Sets.{members_add, empty_set, pair_context, pair_specification}
use Rattle.rules.specs.Tables.{Skid, row_state, row_i, row_o, row_next, row_letter, row_spec_next, spec_next, pairs}
use Rattle.rules.specs.Meaning.{Legal, system, letter_of, InSet}
use Rattle.rules.proofs.Rows.{step_row, spec_below, action, row_context}
use Rattle.rules.proofs.Places.{pair_listed, at_pair}
use Rattle.rules.proofs.Letters.{letter_same}
use Rattle.verdicts.proofs.Adds.{Some}
use Rattle.answers.specs.Plain.{reached, by_row, by_pair, after}
use Rattle.promises.proofs.Folds.{Outcome, fold_stopped, fold_law}

-- a row, for the letter at place t
module _ (k : Skid) (t : ℕ) where
  abbrev meets : ℕ → List ℕ → Bool
  meets p r = eqb (row_state r) (context_of k.n_c p) && eqb (row_letter k r) t

  abbrev RowLeaves : ℕ → List ℕ → Type 0
  RowLeaves p r = T (meets p r) × (row_spec_next k p r ≡ none)

  abbrev RowReaches : ℕ → List ℕ → ℕ → Type 0
  RowReaches p r q = (c : ℕ) × T (meets p r) × (row_spec_next k p r ≡ some c) × (q ≡ pair_place k.n_c (row_next r) c)

  row_stopped : (p : ℕ) (r : List ℕ) → by_row k t p none r ≡ none
  unfolding by_row reached
  row_stopped p r = go (meets p r) (row_spec_next k p r)
    where
      go : (b : Bool) (o : Option ℕ) → (if b then reached k.n_c (row_next r) o none else none) ≡ none
      go true none = refl
      go true (some c) = refl
      go false o = refl

  row_law : (p : ℕ) (r : List ℕ) (s : ℕ) → Outcome (RowLeaves p r) (RowReaches p r) s (by_row k t p (some s) r)
  unfolding by_row reached
  row_law p r s = go (meets p r) refl (row_spec_next k p r) refl
    where
      go : (b : Bool) → meets p r ≡ b → (o : Option ℕ) → row_spec_next k p r ≡ o
          → Outcome (RowLeaves p r) (RowReaches p r) s (if b then reached k.n_c (row_next r) o (some s) else some s)
      go true e none e' = (subst T (sym e) tt, e')
      go true e (some c) e' = (
        λ h. some-ne-none c (sym e' ∙ h.1),
        λ q. (
          λ m. ⊎_elim inl (λ same. inr (c, subst T (sym e) tt, e', same)) ((members_add q (pair_place k.n_c (row_next r) c) s).0 m),
          λ h. (members_add q (pair_place k.n_c (row_next r) c) s).1
              (⊎_elim inl (λ y. inr (y.3 ∙ ap (pair_place k.n_c (row_next r)) (some-injective y.0 c (sym y.2 ∙ e')))) h),
        ),
      )
      go false e o e' = (λ h. subst T e h.0, λ q. (inl, ⊎_elim (λ m. m) (λ y. absurd (subst T e y.1))))

  -- a pair, where it is in the set s₀
  module _ (s₀ : ℕ) where
    abbrev PairLeaves : ℕ → Type 0
    PairLeaves p = T (member p s₀) × Some k.context (RowLeaves p)

    abbrev PairReaches : ℕ → ℕ → Type 0
    PairReaches p q = T (member p s₀) × Some k.context (λ r. RowReaches p r q)

    pair_stopped : (p : ℕ) → by_pair k s₀ t none p ≡ none
    unfolding by_pair
    pair_stopped p = go (member p s₀)
      where
        go : (b : Bool) → (if b then foldl (by_row k t p) none k.context else none) ≡ none
        go true = fold_stopped (by_row k t p) (row_stopped p) k.context
        go false = refl

    pair_law : (p s : ℕ) → Outcome (PairLeaves p) (PairReaches p) s (by_pair k s₀ t (some s) p)
    unfolding by_pair
    pair_law p s = go (member p s₀) refl
      where
        on : T (member p s₀) → (o : Option ℕ) → Outcome (Some k.context (RowLeaves p)) (λ q. Some k.context (λ r. RowReaches p r q)) s o → Outcome (PairLeaves p) (PairReaches p) s o
        on m none h = (m, h)
        on m (some s') h = (λ l. h.0 l.1, λ q. (λ m'. ⊎_elim inl (λ r. inr (m, r)) ((h.1 q).0 m'), λ r. (h.1 q).1 (⊎_elim inl (λ y. inr y.1) r)))

        go : (b : Bool) → member p s₀ ≡ b → Outcome (PairLeaves p) (PairReaches p) s (if b then foldl (by_row k t p) (some s) k.context else some s)
        go true e = on (subst T (sym e) tt) (foldl (by_row k t p) (some s) k.context) (fold_law (by_row k t p) (row_stopped p) (RowLeaves p) (RowReaches p) (row_law p) k.context s)
        go false e = (λ h. subst T e h.0, λ q. (inl, ⊎_elim (λ m. m) (λ r. absurd (subst T e r.0))))

    after_outcome : Outcome (Some (pairs k) PairLeaves) (λ q. Some (pairs k) (λ p. PairReaches p q)) empty (after k s₀ t)
    unfolding after
    after_outcome = fold_law (by_pair k s₀ t) pair_stopped PairLeaves PairReaches pair_law (pairs k) empty

module _ (k : Skid) (asked : ℕ → ℕ → Bool) (legal : Legal k) (s : ℕ) (l : Letter (system k asked)) where
  abbrev t : ℕ
  t = letter_of k asked l

  -- a row that meets the letter is a step of the context over it
  taken : (p : ℕ) (r : List ℕ) (m : Memᴰ r k.context) → T (meets k t p r)
      → (letter (system k asked) (action k legal asked r m) ≡ l) × ((system k asked).ctx (context_of k.n_c p) (action k legal asked r m) ≡ some (row_next r))
  taken p r m h =
      let (h₁, h₂) = and_yes (eqb (row_state r) (context_of k.n_c p)) (eqb (row_letter k r) t) h in (
        letter_same k asked (letter (system k asked) (action k legal asked r m)) l (eqb→eq (row_letter k r) t h₂),
        row_context k legal asked (context_of k.n_c p) r m (eqb→eq (row_state r) (context_of k.n_c p) h₁),
      )

  -- a step of the context over the letter is a row that meets it
  record Met (a c : ℕ) (x : (system k asked).Step) (a' : ℕ) : Type 0 where
    row : List ℕ
    is_row : Memᴰ row k.context
    met : T (meets k t (pair_place k.n_c a c) row)
    to : row_next row ≡ a'
    by : row_spec_next k (pair_place k.n_c a c) row ≡ spec_next k c x.0.0.0 x.0.1.0

  meeting : (a c : ℕ) (x : (system k asked).Step) (a' : ℕ) → c < k.n_c → letter (system k asked) x ≡ l → (system k asked).ctx a x ≡ some a' → Met a c x a'
  meeting a c x a' hc over e =
      let (r, m, y, to) = step_row k.context a x.0.0.0 x.1.1.0 x.1.0.0 x.0.1.0 a' e in
      record {
        row = r;
        is_row = m;
        met = yes_and (eqb (row_state r) (context_of k.n_c (pair_place k.n_c a c))) (eqb (row_letter k r) t)
            (yes_eqb (y.same_state ∙ sym (pair_context k.n_c a c hc))) (yes_eqb {a = row_letter k r} {b = t} (rw (y.same_u, y.same_v) (ap (letter_of k asked) over)));
        to = to;
        by = rw (pair_specification k.n_c a c hc, y.same_i, y.same_o);
      }

  pub after_law : StepLaw (system k asked) (InSet k) s l (after k s (letter_of k asked l))
  after_law = go (after k s t) (after_outcome k t s)
    where
      leaves : Some (pairs k) (PairLeaves k t s) → Leaves (system k asked) (InSet k s) l
      leaves (p, mp, (mem, (r, mr, (met, no_row)))) =
          let (over, step) = taken p r mr met in
          record {
            a = context_of k.n_c p;
            c = specification_of k.n_c p;
            x = action k legal asked r mr;
            member = at_pair k legal s p mp mem;
            over = over;
            step = is_some step;
            no_row = no_row;
          }

      left : Leaves (system k asked) (InSet k s) l → Some (pairs k) (PairLeaves k t s)
      left h =
          let (ha, hc, mem) = h.member in
          let (a', e) = known ((system k asked).ctx h.a h.x) h.step in
          let y = meeting h.a h.c h.x a' hc h.over e in
          (pair_place k.n_c h.a h.c, pair_listed k h.a h.c ha hc, (mem, (y.row, y.is_row, (y.met, y.by ∙ h.no_row))))

      to : (a c : ℕ) → c < k.n_c → Some (pairs k) (λ p. PairReaches k t s p (pair_place k.n_c a c)) → Reached (system k asked) (InSet k s) l a c
      to a c hc (p, mp, (mem, (r, mr, (c', met, row, same)))) =
          let (over, step) = taken p r mr met in
          let hc' : c' < k.n_c = spec_below k legal (specification_of k.n_c p) (row_i r) (row_o r) c' row in
          let ea : row_next r ≡ a = sym (pair_context k.n_c (row_next r) c' hc') ∙ ap (context_of k.n_c) (sym same) ∙ pair_context k.n_c a c hc in
          let ec : c' ≡ c = sym (pair_specification k.n_c (row_next r) c' hc') ∙ ap (specification_of k.n_c) (sym same) ∙ pair_specification k.n_c a c hc in
          record {
            a = context_of k.n_c p;
            c = specification_of k.n_c p;
            x = action k legal asked r mr;
            member = at_pair k legal s p mp mem;
            over = over;
            step = step ∙ ap some ea;
            row = row ∙ ap some ec;
          }

      from : (a c : ℕ) → Reached (system k asked) (InSet k s) l a c → (a < k.n_a) × (c < k.n_c) × Some (pairs k) (λ p. PairReaches k t s p (pair_place k.n_c a c))
      from a c h =
          let (ha, hc, mem) = h.member in
          let y = meeting h.a h.c h.x a hc h.over h.step in (
            subst (λ n. n < k.n_a) y.to (legal.context_rows_lem y.row y.is_row).next_below,
            spec_below k legal h.c h.x.0.0.0 h.x.0.1.0 c h.row,
            (
              pair_place k.n_c h.a h.c,
              pair_listed k h.a h.c ha hc,
              (mem, (y.row, y.is_row, (c, y.met, y.by ∙ h.row, ap (λ n. pair_place k.n_c n c) (sym y.to)))),
            ),
          )

      go : (o : Option ℕ) → Outcome (Some (pairs k) (PairLeaves k t s)) (λ q. Some (pairs k) (λ p. PairReaches k t s p q)) empty o → StepLaw (system k asked) (InSet k) s l o
      go none h = leaves h
      go (some s') h = (
        λ e. h.0 (left e),
        λ a c. (
          λ m. to a c m.1 (⊎_elim (λ z. absurd (empty_set (pair_place k.n_c a c) z)) (λ r. r) ((h.1 (pair_place k.n_c a c)).0 m.2)),
          λ r. let (ha, hc, q) = from a c r in (ha, hc, (h.1 (pair_place k.n_c a c)).1 (inr q)),
        ),
      )
