-- A skid with one step, taken by the specification or not: in the one case there is a good controller, in the other there is none.
-- Assumes nothing.
use mathlib.Core.Path.{refl}
use mathlib.Core.Logic.{◌↔◌, ∥∥₁_elim}
use mathlib.Core.HLevel.{⊥_prop}
use mathlib.Core.Bool.{Bool, true, false, cond}
use mathlib.Core.Option.{Option, none, some, some-ne-none, none-ne-some}
use mathlib.Core.List.Memᴰ
use mathlib.Core.List.{[], ◌∷◌}
use native.Mathlib.Nat.{not-suc-le-zero}
use lib.Dec.{T, T_prop}
use Rattle.words.specs.Words.{Words}
use Rattle.words.specs.Sets.{StepLaw, SetAutomaton}
use Rattle.words.specs.Deletion.{Passes, Finite, after, Rounds, Unblocked}
use Rattle.words.specs.Renamed.{Renamed}
use Rattle.words.specs.Fit.{Fits}
use Rattle.words.proofs.Deletion.{good_part, unblocked_good}
use Rattle.words.proofs.Answer.{table_good}
use Rattle.words.proofs.Fit.{fits_iff_good}
use Rattle.words.specs.System.{System, Letter, Good}

-- the context loops; the specification has the row for its step where b is true
abbrev loop : Bool → System
loop b = record {
  U = Unit {0};
  R = Unit {0};
  Input = Unit {0};
  Step = Unit {0};
  Outside = Unit {0};
  signal = λ x. tt;
  reply = λ x. tt;
  input = λ x. tt;
  outside = λ x. tt;
  A = Unit {0};
  a0 = tt;
  ctx = λ a x. some tt;
  C = Unit {0};
  c0 = tt;
  spc = λ c f. cond b (some tt) none;
  asked = λ c i. Unit {0};
}

loop_law : (b : Bool) (q : Unit {0}) (l : Letter (loop b)) → StepLaw (loop b) (λ q a c. Unit {0}) q l (cond b (some tt) none)
loop_law true q l = (
  λ h. some-ne-none tt h.no_row,
  λ a c. (λ h. record { a = tt; c = tt; x = tt; member = tt; over = refl; step = refl; row = refl }, λ h. tt),
)
loop_law false q l = record { a = tt; c = tt; x = tt; member = tt; over = refl; step = tt; no_row = refl }

abbrev loop_sets : (b : Bool) → SetAutomaton (loop b)
loop_sets b = record {
  Q = Unit {0};
  ok = λ q. Unit {0};
  has = λ q a c. Unit {0};
  start = tt;
  next = λ q l. cond b (some tt) none;
  start_ok = tt;
  next_ok = λ q o l q' e. tt;
  start_has = λ a c. (λ h. (refl, refl), λ h. tt);
  next_has = λ q o l. loop_law b q l;
}

loop_pass : (b : Bool) (k : Unit {0} → Bool) (q : Unit {0}) → T (cond b (k tt) false) ↔ Passes (loop b) (loop_sets b) k q
loop_pass true k q = (
  λ h. record { replies = λ u. ∣ (tt, tt, refl, h) ∣₁; continues = λ a c m i want. ∣ (tt, tt, refl, tt, refl, h) ∣₁ },
  λ h. ∥∥₁_elim (h.replies tt) (T_prop (k tt)) (λ t. t.3),
)
loop_pass false k q = (λ h. absurd h, λ h. ∥∥₁_elim (h.replies tt) ⊥_prop (λ t. none-ne-some t.1 t.2))

loop_finite : (b : Bool) → Finite (loop b) (loop_sets b)
loop_finite b = record {
  states = tt ∷ [];
  listed = λ q. (λ o. Memᴰ.head refl, λ d. tt);
  pass = λ k q. cond b (k tt) false;
  pass_law = λ k q o. loop_pass b k q;
}

loop_rounds : Rounds (loop true) (loop_sets true) (loop_finite true) 0
unfolding loop_finite
loop_rounds = record { deleting = λ j h. absurd (not-suc-le-zero h); done = λ q d. d.2 tt }

loop_good : Good (loop true) (Unblocked (loop true) (loop_sets true) (loop_finite true) 0)
unfolding loop_finite
loop_good = unblocked_good (loop true) (loop_sets true) (loop_finite true) 0 loop_rounds tt

-- the table with the one row is the unblocked answer numbered afresh, and fits
abbrev loop_row : Unit {0} → Letter (loop true) → Option (Unit {0})
loop_row d l = some tt

loop_renamed : Renamed (loop true) (loop_sets true) (after (loop true) (loop_sets true) (loop_finite true) 0) loop_row tt
loop_renamed = record {
  ok = λ d. Unit {0};
  old = λ d. d;
  start_ok = tt;
  start_old = refl;
  next_ok = λ d o l d' e. tt;
  next_old = λ d o l. refl;
}

loop_fits : Fits (loop true) loop_row tt
loop_fits = (fits_iff_good (loop true) loop_row tt).1
    (table_good (loop true) (loop_sets true) (loop_finite true) 0 loop_rounds tt loop_row tt loop_renamed)

loop_none : (X : Words (Letter (loop false))) → ¬ Good (loop false) X
unfolding loop_finite
loop_none X g = good_part (loop false) (loop_sets false) (loop_finite false) 1 X g [] g.controller.starts
