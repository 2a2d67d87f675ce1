-- A table of kept states under new names can run exactly the words that run through kept states.
-- Assumes nothing.
use mathlib.Core.Path.{◌≡◌, refl, sym, ap, subst, ◌∙◌}
use mathlib.Core.Logic.{◌↔◌}
use mathlib.Core.Bool.{Bool, true, false, cond}
use mathlib.Core.Option.{Option, none, some, map, none-ne-some, some-injective, map-eq-some_iff}
use mathlib.Core.List.{List, [], ◌∷◌}
use lib.Dec.{T}
use Rattle.words.specs.Words.{Runs}
use Rattle.words.specs.System.{System, Letter}
use Rattle.words.specs.Sets.{SetAutomaton}
use Rattle.words.specs.Deletion.{Through}
use Rattle.words.specs.Renamed.{if_kept, Renamed}
use Rattle.words.proofs.Words.{first_step, runs_cons}
use Rattle.words.proofs.Deletion.{through_here}

-- what is left of a next state is the same state, and kept; a kept one is left
kept_only : {Q : Type 0} (k : Q → Bool) (o : Option Q) (q : Q) → if_kept k o ≡ some q → (o ≡ some q) × T (k q)
kept_only k none q e = absurd (none-ne-some q e)
kept_only k (some p) q e = go (k p) refl e
  where
    go : (b : Bool) → k p ≡ b → cond b (some p) none ≡ some q → (some p ≡ some q) × T (k q)
    go true h e = (e, subst T (sym h ∙ ap k (some-injective p q e)) tt)
    go false h e = absurd (none-ne-some q e)

kept_still : {Q : Type 0} (k : Q → Bool) (q : Q) → T (k q) → if_kept k (some q) ≡ some q
kept_still k q = go (k q)
  where
    go : (b : Bool) → T b → cond b (some q) none ≡ some q
    go true h = refl
    go false h = absurd h

module _ (s : System) (m : SetAutomaton s) (k : m.Q → Bool) {D : Type 0} (step : D → Letter s → Option D) (d0 : D) (n : Renamed s m k step d0) where
  open m use {Q, start, next}
  open n use {ok, old, start_ok, start_old, next_ok, next_old}

  runs→through : (w : List (Letter s)) (d : D) → ok d → T (k (old d)) → Runs step d w → Through s m k (old d) w
  runs→through [] d o h r = h
  runs→through (l ∷ w) d o h r =
      let (d', e, r') = first_step step d l w r in
      let (e', h') = kept_only k (next (old d) l) (old d') (sym (next_old d o l) ∙ ap (map old) e) in
      (h, old d', e', runs→through w d' (next_ok d o l d' e) h' r')

  through→runs : (w : List (Letter s)) (d : D) → ok d → Through s m k (old d) w → Runs step d w
  through→runs [] d o t = tt
  through→runs (l ∷ w) d o t =
      let (d', e, p) = (map-eq-some_iff old (step d l)).0 (next_old d o l ∙ ap (if_kept k) t.2 ∙ kept_still k t.1 (through_here s m k t.1 w t.3)) in
      runs_cons step w e (through→runs w d' (next_ok d o l d' e) (subst (λ q. Through s m k q w) (sym p) t.3))

  pub renamed_words : T (k start) → (w : List (Letter s)) → Runs step d0 w ↔ Through s m k start w
  renamed_words h w = (
    λ r. subst (λ q. Through s m k q w) start_old (runs→through w d0 start_ok (subst (λ q. T (k q)) (sym start_old) h) r),
    λ t. through→runs w d0 start_ok (subst (λ q. Through s m k q w) (sym start_old) t),
  )
