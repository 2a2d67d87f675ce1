-- A controller table fits exactly when its words are a good controller; it is not incomplete, does not leave, does not block exactly when they
-- take every signal, stay within the specification, leave a continuation.
-- Assumes nothing.
use mathlib.Core.Path.{◌≡◌, refl, sym, ap, subst, ◌∙◌}
use mathlib.Core.Logic.{◌↔◌, ∥∥₁_map}
use mathlib.Core.Option.{Option, some, IsSome}
use mathlib.Core.List.{List, [], ◌∷◌, ◌++◌, map, map-append}
use Rattle.words.specs.Words.{run, Runs}
use Rattle.words.specs.System.{System, Letter, letter, TakesEverySignal, StaysWithin, LeavesContinuation, Good}
use Rattle.words.specs.Fit.{Triple, Complete, Stays, Joins, Fits}
use Rattle.words.proofs.Words.{known, is_some, run_last, first_step, runs_cons, runs_closed}

-- one step after the controller word, or the outside word, of a combined word
module _ {S L E : Type 0} (step : S → L → Option S) (s : S) (f : E → L) where
  pub read_last : {t : S} (α : List E) (x : E) → run step s (map f α) ≡ some t → run step s (map f (α ++ (x ∷ []))) ≡ step t (f x)
  read_last α x e = ap (run step s) (map-append f α (x ∷ [])) ∙ run_last step s (map f α) (f x) e

module _ (s : System) {D : Type 0} (step : D → Letter s → Option D) (d0 : D) where
  open s use {Step, outside, A, a0, ctx, C, c0, spc}

  pub complete_iff : Complete s step d0 ↔ TakesEverySignal s (Runs step d0)
  complete_iff = (
    λ f w x u. let (d, e) = known (run step d0 w) x in ∥∥₁_map (f w d e u) (λ t. (t.0, subst IsSome (sym (run_last step d0 w (u, t.0) e)) t.1)),
    λ g w d e u. ∥∥₁_map (g w (is_some e) u) (λ t. (t.0, subst IsSome (run_last step d0 w (u, t.0) e) t.1)),
  )

  -- one joint step further
  unfoldable pub triple_last : {a a' : A} {c c' : C} {d d' : D} (x : Step) → Triple s step d0 a c d → ctx a x ≡ some a' → spc c (outside x) ≡ some c' → step d (letter s x) ≡ some d' → Triple s step d0 a' c' d'
  triple_last x t ea ec ed = (t.0 ++ (x ∷ []), run_last ctx a0 t.0 x t.1 ∙ ea, read_last spc c0 outside t.0 x t.2 ∙ ec, read_last step d0 (letter s) t.0 x t.3 ∙ ed)

  module _ (f : Stays s step d0) where
    within_from : (α : List Step) (a : A) (c : C) (d : D) → Triple s step d0 a c d → Runs ctx a α → Runs step d (map (letter s) α) → Runs spc c (map outside α)
    within_from [] a c d t ka kd = tt
    within_from (x ∷ α) a c d t ka kd =
        let (a', ea, ka') = first_step ctx a x α ka in
        let (d', ed, kd') = first_step step d (letter s x) (map (letter s) α) kd in
        let (c', ec) = known (spc c (outside x)) (f a c d t x (is_some ea) (is_some ed)) in
        runs_cons spc (map outside α) ec (within_from α a' c' d' (triple_last x t ea ec ed) ka' kd')

  pub stays_iff : Stays s step d0 ↔ StaysWithin s (Runs step d0)
  stays_iff = (
    λ f α k x. within_from f α a0 c0 d0 ([], refl, refl, refl) k x,
    λ g a c d t x ha hd. subst IsSome (read_last spc c0 outside t.0 x t.2)
        (g (t.0 ++ (x ∷ [])) (subst IsSome (sym (run_last ctx a0 t.0 x t.1)) ha) (subst IsSome (sym (read_last step d0 (letter s) t.0 x t.3)) hd)),
  )

  pub joins_iff : Joins s step d0 ↔ LeavesContinuation s (Runs step d0)
  joins_iff = (
    λ f α k x c e i want.
        let (a, ea) = known (run ctx a0 α) k in
        let (d, ed) = known (run step d0 (map (letter s) α)) x in
        ∥∥₁_map (f a c d (α, ea, e, ed) i want)
        (λ n. (n.0, n.1, subst IsSome (sym (run_last ctx a0 α n.0 ea)) n.2, subst IsSome (sym (read_last step d0 (letter s) α n.0 ed)) n.3)),
    λ g a c d t i want. ∥∥₁_map (g t.0 (is_some t.1) (is_some t.3) c t.2 i want)
        (λ n. (n.0, n.1, subst IsSome (run_last ctx a0 t.0 n.0 t.1) n.2, subst IsSome (read_last step d0 (letter s) t.0 n.0 t.3) n.3)),
  )

  -- a table's words hold the beginnings of each of them and the empty word, whatever its rows: it is always a controller
  pub fits_iff_good : Fits s step d0 ↔ Good s (Runs step d0)
  fits_iff_good = (
    λ f. record {
      controller = record { starts = tt; closed = runs_closed step d0 };
      within = stays_iff.0 f.stays;
      signals = complete_iff.0 f.complete;
      continues = joins_iff.0 f.joins;
    },
    λ g. record { complete = complete_iff.1 g.signals; stays = stays_iff.1 g.within; joins = joins_iff.1 g.continues },
  )
