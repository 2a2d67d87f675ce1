-- The unblocked answer is a good controller and contains every good controller; its start is deleted exactly when there is none.
-- Assumes nothing.
use mathlib.Core.Path.{◌≡◌, refl, sym, subst, subst₂, ◌∙◌}
use mathlib.Core.Logic.{◌↔◌, ∥∥₁_map}
use mathlib.Core.Bool.{Bool, true}
use mathlib.Core.Option.{some, IsSome, some-injective}
use mathlib.Core.List.{List, [], ◌∷◌, ◌++◌, map}
use Prim.Native.Nat.{ℕ, zero, suc}
use lib.Dec.{T}
use mir.Facts.{and_yes, yes_and}
use Rattle.words.specs.Words.{run, Runs, Words, ◌⊆◌}
use Rattle.words.specs.System.{System, Letter, letter, StaysWithin, TakesEverySignal, LeavesContinuation, Controller, Good}
use Rattle.words.specs.Sets.{Reached, StepLaw, SetAutomaton}
use Rattle.words.specs.Deletion.{Passes, Finite, Through, round, after, Rounds, Unblocked}
use Rattle.words.proofs.Words.{known, is_some, run_cons, first_step, runs_cons}
use Rattle.words.proofs.Count.{stable}
use Rattle.words.proofs.Largest.{stays_within_iff_plain}
use Rattle.words.proofs.Subset.{start_at, joint_step, plain→runs, plain_iff_runs}

-- what can follow l in the words of X
abbrev after_letter : {L : Type 0} → Words L → L → Words L
after_letter X l w = X (l ∷ w)

module _ (s : System) (m : SetAutomaton s) where
  open s use {U, R, Input, Step, input, outside, A, a0, ctx, C, c0, spc, asked}
  open m use {Q, ok, has, start, next, start_ok, next_ok, start_has, next_has}

  -- words through kept states

  pub through_here : (k : Q → Bool) (q : Q) (w : List (Letter s)) → Through s m k q w → T (k q)
  through_here k q [] h = h
  through_here k q (l ∷ w) h = h.0

  through_closed : (k : Q → Bool) (p z : List (Letter s)) (q : Q) → Through s m k q (p ++ z) → Through s m k q p
  through_closed k [] z q h = through_here k q z h
  through_closed k (l ∷ p) z q h = (h.0, h.1, h.2, through_closed k p z h.1 h.3)

  through→runs : (k : Q → Bool) (w : List (Letter s)) (q : Q) → Through s m k q w → Runs next q w
  through→runs k [] q h = tt
  through→runs k (l ∷ w) q h = runs_cons next w h.2 (through→runs k w h.1 h.3)

  runs→through : (w : List (Letter s)) (q : Q) → Runs next q w → Through s m (λ _. true) q w
  runs→through [] q r = tt
  runs→through (l ∷ w) q r = let (q', e, r') = first_step next q l w r in (tt, q', e, runs→through w q' r')

  -- where every kept state passes

  module _ (k : Q → Bool) (passing : (q : Q) → ok q → T (k q) → Passes s m k q) where
    through_signals : (w : List (Letter s)) (q : Q) → ok q → Through s m k q w → (u : U)
        → ∥ ((r : R) × Through s m k q (w ++ ((u, r) ∷ []))) ∥₁
    through_signals [] q o h u = ∥∥₁_map ((passing q o h).replies u) (λ t. (t.0, (h, t.1, t.2, t.3)))
    through_signals (l ∷ w) q o h u =
        ∥∥₁_map (through_signals w h.1 (next_ok q o l h.1 h.2) h.3 u) (λ t. (t.0, (h.0, h.1, h.2, t.1)))

    through_continues : (α : List Step) (q : Q) (a : A) (c : C) → ok q → has q a c → Runs ctx a α → Through s m k q (map (letter s) α)
        → (c' : C) → run spc c (map outside α) ≡ some c' → (i : Input) → asked c' i
        → ∥ ((x : Step) × (input x ≡ i) × Runs ctx a (α ++ (x ∷ [])) × Through s m k q (map (letter s) (α ++ (x ∷ [])))) ∥₁
    through_continues [] q a c o h r t c' e i want =
        ∥∥₁_map ((passing q o t).continues a c h i (subst (λ c. asked c i) (sym (some-injective c c' e)) want))
        (λ t'. (t'.0, t'.2, runs_cons ctx [] (known (ctx a t'.0) t'.3).1 tt, (t, t'.1, t'.4, t'.5)))
    through_continues (x ∷ α) q a c o h r t c' e i want =
        let (a₁, step, r₁) = first_step ctx a x α r in
        let (c₁, row, h₁) = joint_step s m o t.2 h step in
        ∥∥₁_map (through_continues α t.1 a₁ c₁ (next_ok q o (letter s x) t.1 t.2) h₁ r₁ t.3 c' (sym (run_cons spc (map outside α) row) ∙ e) i want)
        (λ t'. (t'.0, t'.1, runs_cons ctx (α ++ (t'.0 ∷ [])) step t'.2, (t.0, t.1, t.2, t'.3)))

    through_good : T (k start) → Good s (Through s m k start)
    through_good kept = record {
      controller = record { starts = kept; closed = λ p z. through_closed k p z start };
      within = (stays_within_iff_plain s (Through s m k start) (λ p z. through_closed k p z start)).1
          (λ w h. (plain_iff_runs s m w).1 (through→runs k w start h));
      signals = λ w. through_signals w start start_ok;
      continues = λ α r t. through_continues α start a0 c0 start_ok ((start_has a0 c0).1 (refl, refl)) r t;
    }

  -- after the last round every kept state passes, so what is left is a good controller
  module _ (f : Finite s m) where
    all_pass : (n : ℕ) → Rounds s m f n → (q : Q) → ok q → T (after s m f n q) → Passes s m (after s m f n) q
    all_pass n r q o h = (f.pass_law (after s m f n) q o).0
        (stable (f.pass (after s m f n) q) (λ out. r.done q (o, h, λ b. out (and_yes (after s m f n q) (f.pass (after s m f n) q) b).1)))

    -- "stays within the specification, takes every context signal, and leaves the joined skid a continuation for every irrigation signal"
    pub unblocked_good : (n : ℕ) → Rounds s m f n → T (after s m f n start) → Good s (Unblocked s m f n)
    unblocked_good n r = through_good (after s m f n) (all_pass n r)

  -- what is left contains every good controller: X is good from each pair of q on
  record GoodAt (q : Q) (X : Words (Letter s)) : Type 0 where
    controller : Controller s X
    signals : TakesEverySignal s X
    within : (a : A) (c : C) → has q a c → StaysWithin (start_at s a c) X
    continues : (a : A) (c : C) → has q a c → LeavesContinuation (start_at s a c) X

  -- and so is its rest after a letter, from the next state on
  rest_good : (q q' : Q) (l : Letter s) (X : Words (Letter s)) → ok q → next q l ≡ some q' → GoodAt q X → X (l ∷ []) → GoodAt q' (after_letter X l)
  rest_good q q' l X o e g x = record {
    controller = record { starts = x; closed = λ p z. g.controller.closed (l ∷ p) z };
    signals = λ w. g.signals (l ∷ w);
    within = λ a' c' h α r y. let t = from a' c' h in
        subst IsSome (run_cons spc (map outside α) t.row)
        (g.within t.a t.c t.member (t.x ∷ α) (runs_cons ctx α t.step r) (subst (λ l. X (l ∷ map (letter s) α)) (sym t.over) y));
    continues = λ a' c' h α r y c'' e' i want. let t = from a' c' h in
        ∥∥₁_map
        (g.continues t.a t.c t.member (t.x ∷ α) (runs_cons ctx α t.step r) (subst (λ l. X (l ∷ map (letter s) α)) (sym t.over) y)
        c'' (run_cons spc (map outside α) t.row ∙ e') i want)
        (λ n. (n.0, n.1, subst IsSome (run_cons ctx (α ++ (n.0 ∷ [])) t.step) n.2, subst (λ l. X (l ∷ map (letter s) (α ++ (n.0 ∷ [])))) t.over n.3));
  }
    where
      from : (a : A) (c : C) → has q' a c → Reached s (has q) l a c
      from a c = ((subst (StepLaw s has q l) e (next_has q o l)).1 a c).0

  good→at_start : (X : Words (Letter s)) → Good s X → GoodAt start X
  good→at_start X g = record {
    controller = g.controller;
    signals = g.signals;
    within = λ a c h. subst₂ (λ a c. StaysWithin (start_at s a c) X) (sym ((start_has a c).0 h).0) (sym ((start_has a c).0 h).1) g.within;
    continues = λ a c h. subst₂ (λ a c. LeavesContinuation (start_at s a c) X) (sym ((start_has a c).0 h).0) (sym ((start_has a c).0 h).1) g.continues;
  }

  -- every good controller runs through the states that k keeps
  abbrev Keeps : (Q → Bool) → Type 1
  Keeps k = (q : Q) → ok q → (X : Words (Letter s)) → GoodAt q X → X ⊆ Through s m k q

  keeps_all : Keeps (λ _. true)
  keeps_all q o X g w x = runs→through w q (plain→runs s m w q o λ a c h.
      (stays_within_iff_plain (start_at s a c) X g.controller.closed).0 (g.within a c h) w x)

  keeps→passes : (k : Q → Bool) → Keeps k → (q : Q) → ok q → (X : Words (Letter s)) → GoodAt q X → Passes s m k q
  keeps→passes k keeps q o X g = record {
    replies = λ u. ∥∥₁_map (g.signals [] g.controller.starts u) (λ t.
        let n = keeps q o X g _ t.1 in (t.0, n.1, n.2, n.3));
    continues = λ a c h i want. ∥∥₁_map (g.continues a c h [] tt g.controller.starts c refl i want) (λ t.
        let n = keeps q o X g _ t.3 in
        (t.0, n.1, t.1, is_some (first_step ctx a t.0 [] t.2).1, n.2, n.3));
  }

  module _ (f : Finite s m) where
    kept_longer : (k : Q → Bool) → Keeps k → (q : Q) → ok q → (X : Words (Letter s)) → GoodAt q X → T (round s m f k q)
    kept_longer k keeps q o X g =
        yes_and (k q) (f.pass k q) (keeps q o X g [] g.controller.starts) ((f.pass_law k q o).1 (keeps→passes k keeps q o X g))

    keeps_round : (k : Q → Bool) → Keeps k → Keeps (round s m f k)
    keeps_round k keeps q o X g [] x = kept_longer k keeps q o X g
    keeps_round k keeps q o X g (l ∷ w) x =
        let n = keeps q o X g (l ∷ w) x in
        let g' = rest_good q n.1 l X o n.2 g (g.controller.closed (l ∷ []) w x) in
        (kept_longer k keeps q o X g, n.1, n.2, keeps_round k keeps n.1 (next_ok q o l n.1 n.2) (after_letter X l) g' w x)

    keeps_after : (j : ℕ) → Keeps (after s m f j)
    keeps_after zero = keeps_all
    keeps_after (suc j) = keeps_round (after s m f j) (keeps_after j)

    -- "It contains every controller, of any size, that does these three": after any number of rounds
    pub good_part : (j : ℕ) (X : Words (Letter s)) → Good s X → X ⊆ Unblocked s m f j
    good_part j X g = keeps_after j start start_ok X (good→at_start X g)

    -- "'None' is given exactly when there is no such controller."
    pub none_iff_no_good : (n : ℕ) → Rounds s m f n → (¬ T (after s m f n start)) ↔ ((X : Words (Letter s)) → ¬ Good s X)
    none_iff_no_good n r = (
      λ out X g. out (good_part n X g [] g.controller.starts),
      λ no_good h. no_good (Unblocked s m f n) (unblocked_good f n r h),
    )
