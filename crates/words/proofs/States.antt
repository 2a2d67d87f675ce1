-- The state that a word leads to holds exactly the pairs that the word reaches; a plain word leads to a state.
-- Assumes nothing.
use mathlib.Core.Path.{◌≡◌, refl, sym, ap, ap₂, subst, subst₂, ◌∙◌}
use mathlib.Core.Logic.{◌↔◌}
use mathlib.Core.Option.{Option, some, some-injective}
use mathlib.Core.List.{List, [], ◌∷◌}
use Rattle.words.specs.Words.{run}
use Rattle.words.specs.System.{System, Letter, letter, controller_word, outside_word, Plain}
use Rattle.words.specs.Sets.{Reached, StepLaw, SetAutomaton}
use Rattle.words.specs.States.{PairAfter}
use Rattle.words.proofs.Words.{known, is_some, run_cons, first_step}
use Rattle.words.proofs.Subset.{start_at, joint_step, plain_iff_runs}

-- what leads over a word to t takes its first letter, and leads over the rest to t
first_leads : {S L : Type 0} (step : S → L → Option S) (s : S) {t : S} (l : L) (w : List L) → run step s (l ∷ w) ≡ some t
    → (s' : S) × (step s l ≡ some s') × (run step s' w ≡ some t)
first_leads step s l w e = let (s', f, r) = first_step step s l w (is_some e) in (s', f, sym (run_cons step w f) ∙ e)

module _ (s : System) (m : SetAutomaton s) where
  open s use {Step, A, a0, ctx, C, c0, spc}
  open m use {Q, ok, has, start, next, start_ok, next_ok, start_has, next_has}

  -- present steps lead from states that count to states that count
  ok_from : (w : List (Letter s)) (q : Q) {q' : Q} → ok q → run next q w ≡ some q' → ok q'
  ok_from [] q {q'} k e = subst ok (some-injective q q' e) k
  ok_from (l ∷ w) q k e = let (p, f, e') = first_leads next q l w e in ok_from w p (next_ok q k l p f) e'

  pub run_ok : (w : List (Letter s)) (q : Q) → run next start w ≡ some q → ok q
  run_ok w q e = ok_from w start start_ok e

  -- what runs leads somewhere, and the plain words run
  pub plain_leads : (w : List (Letter s)) → Plain s w → (q : Q) × (run next start w ≡ some q) × ok q
  plain_leads w h = let (q, e) = known (run next start w) ((plain_iff_runs s m w).0 h) in (q, e, run_ok w q e)

  -- a pair of the set reached comes, by steps over the word, from a pair of the set where the word begins
  pair_from : (w : List (Letter s)) (q : Q) {q' : Q} (a' : A) (c' : C) → ok q → run next q w ≡ some q' → has q' a' c'
      → (a : A) × (c : C) × has q a c × PairAfter (start_at s a c) w a' c'
  pair_from [] q {q'} a' c' k e h = (a', c', subst (λ q. has q a' c') (sym (some-injective q q' e)) h, ([], refl, refl, refl))
  pair_from (l ∷ w) q a' c' k e h =
      let (p, f, e') = first_leads next q l w e in
      let (a, c, h₁, (α, over, t, o)) = pair_from w p a' c' (next_ok q k l p f) e' h in
      let r : Reached s (has q) l a c = ((subst (StepLaw s has q l) f (next_has q k l)).1 a c).0 h₁ in (
        r.a,
        r.c,
        r.member,
        (r.x ∷ α, ap₂ ◌∷◌ r.over over, run_cons ctx α r.step ∙ t, run_cons spc (outside_word s α) r.row ∙ o),
      )

  -- and where steps over the word lead from a pair, the set reached holds the pair where they end
  pair_to : (α : List Step) (q : Q) {q' : Q} (a a' : A) (c c' : C) → ok q → has q a c → run next q (controller_word s α) ≡ some q'
      → run ctx a α ≡ some a' → run spc c (outside_word s α) ≡ some c' → has q' a' c'
  pair_to [] q {q'} a a' c c' k h e t o =
      subst (λ q. has q a' c') (some-injective q q' e) (subst₂ (has q) (some-injective a a' t) (some-injective c c' o) h)
  pair_to (x ∷ α) q a a' c c' k h e t o =
      let (p, f, e') = first_leads next q (letter s x) (controller_word s α) e in
      let (a₁, step, t') = first_leads ctx a x α t in
      let (c₁, row, h₁) = joint_step s m k f h step in
      pair_to α p a₁ a' c₁ c' (next_ok q k (letter s x) p f) h₁ e' t' (sym (run_cons spc (outside_word s α) row) ∙ o)

  -- the pairs of the state that a word leads to are those that the word reaches
  pub pair_after : (w : List (Letter s)) (q : Q) → run next start w ≡ some q → (a : A) (c : C) → has q a c ↔ PairAfter s w a c
  pair_after w q e a c = (
    λ h.
        let (a₁, c₁, k, r) = pair_from w start a c start_ok e h in
        let (i, j) = (start_has a₁ c₁).0 k in
        subst₂ (λ a₁ c₁. PairAfter (start_at s a₁ c₁) w a c) i j r,
    λ r.
        let (α, over, t, o) = r in
        pair_to α start a0 a c0 c start_ok ((start_has a0 c0).1 (refl, refl)) (ap (run next start) over ∙ e) t o,
  )
