-- The rounds of deletion over states are the rounds said of words, where each state is led to by a word: both keep the same, and count alike.
-- Assumes nothing.
use mathlib.Core.Path.{◌≡◌, refl, sym, ap, subst, ◌∙◌}
use mathlib.Core.Logic.{◌↔◌, ∥∥₁_map}
use mathlib.Core.Bool.{Bool}
use mathlib.Core.Option.{some}
use mathlib.Core.List.{List, [], ◌∷◌, ◌++◌, append-nil}
use Prim.Native.Nat.{ℕ, zero, suc, ◌<◌}
use native.Mathlib.Omega.{arith}
use lib.Dec.{T}
use mir.Facts.{and_yes, yes_and}
use Rattle.words.specs.Words.{run, Runs, Words, ◌⊆◌}
use Rattle.words.specs.System.{System, Letter, letter, Plain}
use Rattle.words.specs.Sets.{SetAutomaton}
use Rattle.words.specs.Deletion.{Passes, Finite, Through, after, Rounds}
use Rattle.words.specs.Kept.{WordPasses, KeptAfter, RoundsOfWords, ThroughKept}
use Rattle.words.proofs.Words.{is_some, run_cons, run_last, first_step}
use Rattle.words.proofs.Count.{stable}
use Rattle.words.proofs.Subset.{plain_iff_runs}
use Rattle.words.proofs.Deletion.{through_here}
use Rattle.words.proofs.States.{run_ok, plain_leads, pair_after}

module _ (s : System) where
  -- no round adds a word
  kept_plain : (j : ℕ) → KeptAfter s j ⊆ Plain s
  kept_plain zero w h = h
  kept_plain (suc j) w h = kept_plain j w h.0

  -- the round that ends one count deletes nothing, so that no longer count has it
  words_not_before : (n n' : ℕ) → RoundsOfWords s n → RoundsOfWords s n' → ¬ (n < n')
  words_not_before n n' r r' h = let (w, k, out) = r'.deleting n h in out (r.done w k)

  pub rounds_words_unique : (n n' : ℕ) → RoundsOfWords s n → RoundsOfWords s n' → n ≡ n'
  rounds_words_unique n n' r r' = let a = words_not_before n n' r r' in let b = words_not_before n' n r' r in omega arith

module _ (s : System) (m : SetAutomaton s) where
  open m use {Q, ok, start, next}

  -- where the words of K are those that lead to states that k keeps, a word passes exactly where the state does to which it leads
  module _ (k : Q → Bool) (K : Words (Letter s)) (plain : K ⊆ Plain s)
      (same : (w : List (Letter s)) (q : Q) → run next start w ≡ some q → T (k q) ↔ K w)
      (w : List (Letter s)) (q : Q) (e : run next start w ≡ some q) where
    -- a letter leads to a kept state exactly where the word with it is in K
    letter_kept : (l : Letter s) → ((q' : Q) × (next q l ≡ some q') × T (k q')) ↔ K (w ++ (l ∷ []))
    letter_kept l = (
      λ h. (same (w ++ (l ∷ [])) h.0 (run_last next start w l e ∙ h.1)).0 h.2,
      λ h. let (q', f, o) = plain_leads s m (w ++ (l ∷ [])) (plain (w ++ (l ∷ [])) h) in
          (q', sym (run_last next start w l e) ∙ f, (same (w ++ (l ∷ [])) q' f).1 h),
    )

    -- so both halves of the test agree: (i) letter by letter, (ii) since state and word have the same pairs
    passes_words : Passes s m k q ↔ WordPasses s K w
    passes_words = (
      λ p. record {
        replies = λ u. ∥∥₁_map (p.replies u) (λ t. (t.0, (letter_kept (u, t.0)).0 (t.1, t.2, t.3)));
        continues = λ a c h i want. ∥∥₁_map (p.continues a c ((pair_after s m w q e a c).1 h) i want)
            (λ t. (t.0, t.2, t.3, (letter_kept (letter s t.0)).0 (t.1, t.4, t.5)));
      },
      λ p. record {
        replies = λ u. ∥∥₁_map (p.replies u) (λ t. let n = (letter_kept (u, t.0)).1 t.1 in (t.0, n.0, n.1, n.2));
        continues = λ a c h i want. ∥∥₁_map (p.continues a c ((pair_after s m w q e a c).0 h) i want)
            (λ t. let n = (letter_kept (letter s t.0)).1 t.3 in (t.0, n.0, t.1, t.2, n.1, n.2));
      },
    )

  -- a word that runs through kept states: each of its beginnings leads to one
  through_at : (k : Q → Bool) (p z : List (Letter s)) (q : Q) → Through s m k q (p ++ z) → (q' : Q) × (run next q p ≡ some q') × T (k q')
  through_at k [] z q h = (q, refl, through_here s m k q z h)
  through_at k (l ∷ p) z q h = let (q', e, t) = through_at k p z h.1 h.3 in (q', run_cons next p h.2 ∙ e, t)

  -- and a word that runs, and whose beginnings lead only to kept states, runs through kept ones
  at_through : (k : Q → Bool) (w : List (Letter s)) (q : Q) → Runs next q w
      → ((p z : List (Letter s)) (q' : Q) → p ++ z ≡ w → run next q p ≡ some q' → T (k q')) → Through s m k q w
  at_through k [] q r h = h [] [] q refl refl
  at_through k (l ∷ w) q r h =
      let (q₁, e, r₁) = first_step next q l w r in
      (h [] (l ∷ w) q refl refl, q₁, e, at_through k w q₁ r₁ (λ p z q' b e'. h (l ∷ p) z q' (ap (λ w. l ∷ w) b) (run_cons next p e ∙ e')))

  module _ (f : Finite s m) where
    -- a word is kept as long as the state to which it leads
    pub kept_exactly : (j : ℕ) (w : List (Letter s)) (q : Q) → run next start w ≡ some q → T (after s m f j q) ↔ KeptAfter s j w
    kept_exactly zero w q e = (λ _. (plain_iff_runs s m w).1 (is_some e), λ _. tt)
    kept_exactly (suc j) w q e =
        let law = f.pass_law (after s m f j) q (run_ok s m w q e) in
        let words = passes_words (after s m f j) (KeptAfter s j) (kept_plain s j) (kept_exactly j) w q e in
        let rest = kept_exactly j w q e in (
          λ h. let (t, p) = and_yes (after s m f j q) (f.pass (after s m f j) q) h in (rest.0 t, words.0 (law.0 p)),
          λ h. yes_and (after s m f j q) (f.pass (after s m f j) q) (rest.1 h.0) (law.1 (words.1 h.1)),
        )

    -- where a word leads to each state, the two count the same rounds
    pub rounds_of_words : (each : (q : Q) → ok q → (w : List (Letter s)) × (run next start w ≡ some q)) → (n : ℕ) → Rounds s m f n → RoundsOfWords s n
    rounds_of_words each n r = record {
      deleting = λ j h.
          let (q, (o, t, out)) = r.deleting j h in
          let (w, e) = each q o in
          (w, (kept_exactly j w q e).0 t, λ k. out ((kept_exactly (suc j) w q e).1 k));
      done = λ w k.
          let (q, e, o) = plain_leads s m w (kept_plain s n w k) in
          (kept_exactly (suc n) w q e).0 (stable (after s m f (suc n) q) (λ out. r.done q (o, (kept_exactly n w q e).1 k, out)));
    }

    -- a word runs through kept states exactly where it and its beginnings are kept
    pub through_kept : (n : ℕ) (w : List (Letter s)) → Through s m (after s m f n) start w ↔ ThroughKept s n w
    through_kept n w = (
      λ h p z b. let (q, e, t) = through_at (after s m f n) p z start (subst (Through s m (after s m f n) start) (sym b) h) in (kept_exactly n p q e).0 t,
      λ h. at_through (after s m f n) w start ((plain_iff_runs s m w).0 (kept_plain s n w (h w [] (append-nil w))))
          (λ p z q b e. (kept_exactly n p q e).1 (h p z b)),
    )
