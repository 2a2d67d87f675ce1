-- How a table runs a word, letter by letter; the words that it can run hold the beginnings of each of them.
-- Assumes nothing.
use mathlib.Core.Path.{◌≡◌, refl, sym, ap, subst, ◌∙◌, fun_ext}
use mathlib.Core.Option.{Option, none, some, IsSome}
use mathlib.Core.List.{List, [], ◌∷◌, ◌++◌}
use Rattle.words.specs.Words.{onward, run, Runs, PrefixClosed}

-- a next state, taken apart with its equation
pub known : {S : Type 0} (o : Option S) → IsSome o → (t : S) × (o ≡ some t)
known none h = absurd h
known (some t) h = (t, refl)

pub is_some : {S : Type 0} {o : Option S} {t : S} → o ≡ some t → IsSome o
is_some {o} e = subst IsSome (sym e) tt

pub not_both : {S : Type 0} {o : Option S} → IsSome o → o ≡ none → ⊥
not_both h e = subst IsSome e h

pub dec_some : {S : Type 0} (o : Option S) → ¬ (¬ IsSome o) → IsSome o
dec_some none h = h (λ x. x)
dec_some (some t) h = tt

onward_assoc : {S T W : Type 0} (o : Option S) (f : S → Option T) (g : T → Option W) → onward (onward o f) g ≡ onward o (λ s. onward (f s) g)
onward_assoc none f g = refl
onward_assoc (some s) f g = refl

onward_some : {S : Type 0} (o : Option S) → onward o (λ s. some s) ≡ o
onward_some none = refl
onward_some (some s) = refl

onward_first : {S T : Type 0} (o : Option S) (f : S → Option T) → IsSome (onward o f) → IsSome o
onward_first none f h = h
onward_first (some s) f h = tt

module _ {S L : Type 0} (step : S → L → Option S) where
  pub run_cons : {s t : S} {l : L} (w : List L) → step s l ≡ some t → run step s (l ∷ w) ≡ run step t w
  run_cons w e = ap (λ o. onward o (λ t. run step t w)) e

  -- what can run a word takes its first letter, and runs the rest
  pub first_step : (s : S) (l : L) (w : List L) → Runs step s (l ∷ w) → (t : S) × (step s l ≡ some t) × Runs step t w
  first_step s l w h = go (step s l) refl h
    where
      go : (o : Option S) → step s l ≡ o → IsSome (onward o (λ t. run step t w)) → (t : S) × (step s l ≡ some t) × Runs step t w
      go none e h = absurd h
      go (some t) e h = (t, e, h)

  pub runs_cons : {s t : S} {l : L} (w : List L) → step s l ≡ some t → Runs step t w → Runs step s (l ∷ w)
  runs_cons w e h = subst IsSome (sym (run_cons w e)) h

  -- a word and then another; a word and then one letter
  run_append : (s : S) (w z : List L) → run step s (w ++ z) ≡ onward (run step s w) (λ t. run step t z)
  run_append s [] z = refl
  run_append s (l ∷ w) z = ap (onward (step s l)) (fun_ext (λ t. run_append t w z)) ∙ sym (onward_assoc (step s l) (λ t. run step t w) (λ t. run step t z))

  pub run_last : (s : S) {t : S} (w : List L) (l : L) → run step s w ≡ some t → run step s (w ++ (l ∷ [])) ≡ step t l
  run_last s {t} w l e = run_append s w (l ∷ []) ∙ ap (λ o. onward o (λ t. run step t (l ∷ []))) e ∙ onward_some (step t l)

  pub runs_closed : (s : S) → PrefixClosed (Runs step s)
  runs_closed s p z h = onward_first (run step s p) (λ t. run step t z) (subst IsSome (run_append s p z) h)
