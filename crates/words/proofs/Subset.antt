-- The set automaton runs exactly the plain words. "The empty set is a state; every step from it leads to itself."
-- Assumes nothing.
use mathlib.Core.Path.{◌≡◌, refl, sym, ap, ap₂, subst, subst₂, ◌∙◌}
use mathlib.Core.Logic.{◌↔◌}
use mathlib.Core.Option.{Option, none, some, IsSome}
use mathlib.Core.List.{List, [], ◌∷◌, ◌++◌, map}
use Rattle.words.specs.Words.{Runs, Words}
use Rattle.words.specs.System.{System, Letter, letter, Plain}
use Rattle.words.specs.Sets.{Leaves, Reached, StepLaw, SetAutomaton}
use Rattle.words.proofs.Words.{known, is_some, not_both, run_cons, first_step, runs_cons}

-- the same skid, started in other states
abbrev pub start_at : (s : System) → s.A → s.C → System
start_at s a c = record {
  U = s.U;
  R = s.R;
  Input = s.Input;
  Step = s.Step;
  Outside = s.Outside;
  signal = s.signal;
  reply = s.reply;
  input = s.input;
  outside = s.outside;
  A = s.A;
  a0 = a;
  ctx = s.ctx;
  C = s.C;
  c0 = c;
  spc = s.spc;
  asked = s.asked;
}

module _ (s : System) (m : SetAutomaton s) where
  open s use {Step, outside, A, a0, ctx, C, c0, spc}
  open m use {Q, ok, has, start, next, start_ok, next_ok, start_has, next_has}

  -- a present step: every step of the context over it has its row, and its set holds the pair reached
  pub joint_step : {q q' : Q} {a a' : A} {c : C} {x : Step} → ok q → next q (letter s x) ≡ some q' → has q a c → ctx a x ≡ some a'
      → (c' : C) × (spc c (outside x) ≡ some c') × has q' a' c'
  joint_step {q} {q'} {a} {a'} {c} {x} k e h t = go (spc c (outside x)) refl
    where
      law : StepLaw s has q (letter s x) (some q')
      law = subst (StepLaw s has q (letter s x)) e (next_has q k (letter s x))

      go : (o : Option C) → spc c (outside x) ≡ o → (c' : C) × (spc c (outside x) ≡ some c') × has q' a' c'
      go none e' = absurd (law.0 record { a = a; c = c; x = x; member = h; over = refl; step = is_some t; no_row = e' })
      go (some c') e' = (c', e', (law.1 a' c').1 record { a = a; c = c; x = x; member = h; over = refl; step = t; row = e' })

  -- what the automaton can run breaks nothing
  runs→within : (α : List Step) (z : List (Letter s)) {q : Q} {a : A} {c : C} → ok q → has q a c → Runs ctx a α
      → Runs next q (map (letter s) α ++ z) → Runs spc c (map outside α)
  runs→within [] z k h r n = tt
  runs→within (x ∷ α) z {q} {a} {c} k h r n =
      let (a', t, r') = first_step ctx a x α r in
      let (q', e, n') = first_step next q (letter s x) (map (letter s) α ++ z) n in
      let (c', o, h') = joint_step k e h t in
      runs_cons spc (map outside α) o (runs→within α z (next_ok q k (letter s x) q' e) h' r' n')

  -- the word is plain from each pair of q on
  abbrev PlainAt : Q → Words (Letter s)
  PlainAt q w = (a : A) (c : C) → has q a c → Plain (start_at s a c) w

  plain_stays : {q : Q} {l : Letter s} {w : List (Letter s)} → PlainAt q (l ∷ w) → ¬ Leaves s (has q) l
  plain_stays {q} {l} {w} h v =
      let (a', e) = known (ctx v.a v.x) v.step in
      let r : Runs spc v.c (outside v.x ∷ []) = h v.a v.c v.member (l ∷ []) w refl (v.x ∷ []) (runs_cons ctx [] e tt) (ap (λ l. l ∷ []) v.over) in
      let (c', e', u) = first_step spc v.c (outside v.x) [] r in
      not_both (is_some e') v.no_row

  -- and after a joint step its rest is plain from the pair reached
  plain_step : {q : Q} {l : Letter s} {w : List (Letter s)} {a' : A} {c' : C} → PlainAt q (l ∷ w) → Reached s (has q) l a' c' → Plain (start_at s a' c') w
  plain_step {l = l} h v p z b α k over = subst IsSome (run_cons spc (map outside α) v.row)
      (h v.a v.c v.member (l ∷ p) z (ap (λ w. l ∷ w) b) (v.x ∷ α) (runs_cons ctx α v.step k) (ap₂ ◌∷◌ v.over over))

  pub plain→runs : (w : List (Letter s)) (q : Q) → ok q → ((a : A) (c : C) → has q a c → Plain (start_at s a c) w) → Runs next q w
  plain→runs [] q k h = tt
  plain→runs (l ∷ w) q k h = go (plain→runs w) (next q l) refl (next_has q k l)
    where
      go : ((q : Q) → ok q → PlainAt q w → Runs next q w) → (o : Option Q) → next q l ≡ o → StepLaw s has q l o → Runs next q (l ∷ w)
      go rest none e law = absurd (plain_stays h law)
      go rest (some q') e law = runs_cons next w e (rest q' (next_ok q k l q' e) (λ a' c' h'. plain_step h ((law.1 a' c').0 h')))

  pub plain_iff_runs : (w : List (Letter s)) → Plain s w ↔ Runs next start w
  plain_iff_runs w = (
    λ h. plain→runs w start start_ok (λ a c k. let e = (start_has a c).0 k in subst₂ (λ a c. Plain (start_at s a c) w) (sym e.0) (sym e.1) h),
    λ r p z e α k o. runs→within α z start_ok ((start_has a0 c0).1 (refl, refl)) k (subst (λ w. Runs next start w) (sym e ∙ ap (λ p. p ++ z) (sym o)) r),
  )

  -- every step from the empty set is present and leads to the empty set
  pub empty_stays : (q : Q) → ok q → ((a : A) (c : C) → ¬ has q a c) → (l : Letter s)
      → (q' : Q) × (next q l ≡ some q') × ((a : A) (c : C) → ¬ has q' a c)
  empty_stays q k none_in l = go (next q l) refl (next_has q k l)
    where
      go : (o : Option Q) → next q l ≡ o → StepLaw s has q l o → (q' : Q) × (next q l ≡ some q') × ((a : A) (c : C) → ¬ has q' a c)
      go none e law = absurd (none_in law.a law.c law.member)
      go (some q') e law = (q', e, λ a c h. let r = (law.1 a c).0 h in none_in r.a r.c r.member)

  -- where two sets with the same pairs are one state, it leads to itself
  pub empty_loops : ((q q' : Q) → ((a : A) (c : C) → has q a c ↔ has q' a c) → q ≡ q')
      → (q : Q) → ok q → ((a : A) (c : C) → ¬ has q a c) → (l : Letter s) → next q l ≡ some q
  empty_loops same q k none_in l =
      let (q', e, none_in') = empty_stays q k none_in l in
      e ∙ ap some (same q' q (λ a c. (λ h. absurd (none_in' a c h), λ h. absurd (none_in a c h))))
