-- The unblocked answer as a table numbered afresh is the largest good controller; the states of a table are the numbers below their count.
-- Assumes nothing.
use mathlib.Core.Path.{◌≡◌, refl, ap}
use mathlib.Core.Logic.{◌↔◌, ∥∥₁_map, ⊎_elim}
use mathlib.Core.Option.{Option}
use mathlib.Core.List.Memᴰ
use mathlib.Core.List.{List, [], ◌∷◌, Memᴰ}
use Prim.Native.Nat.{ℕ, zero, suc, ◌<◌}
use native.Mathlib.Nat.{eq-or-lt_of_le, le_of_suc-le-suc, not-suc-le-zero}
use native.Mathlib.Omega.{arith}
use lib.Dec.{T}
use lib.ListN.{length}
use Rattle.words.specs.Words.{Runs, Words, ◌⊆◌}
use Rattle.words.specs.System.{System, Letter, Good}
use Rattle.words.specs.Sets.{SetAutomaton}
use Rattle.words.specs.Deletion.{Finite, after, Rounds, Unblocked}
use Rattle.words.specs.Renamed.{Renamed}
use Rattle.words.proofs.Deletion.{good_part, unblocked_good}
use Rattle.words.proofs.Renamed.{renamed_words}

-- the states of a table with n states, listed
pub numbers : ℕ → List ℕ
numbers zero = []
numbers (suc n) = n ∷ numbers n

pub numbers_listed : (n q : ℕ) → (q < n) ↔ Memᴰ q (numbers n)
unfolding numbers
numbers_listed zero q = (λ h. absurd (not-suc-le-zero h), λ d. absurd (Memᴰ.not-nil d))
numbers_listed (suc n) q = (
  λ h. ⊎_elim (λ e. Memᴰ.head e) (λ h. Memᴰ.tail ((numbers_listed n q).0 h)) (eq-or-lt_of_le (le_of_suc-le-suc h)),
  λ d. ⊎_elim (λ e. omega arith) (λ d. let h = (numbers_listed n q).1 d in omega arith) (Memᴰ.cases_cons d),
)

pub numbers_length : (n : ℕ) → length (numbers n) ≡ n
unfolding numbers
numbers_length zero = refl
numbers_length (suc n) = ap suc (numbers_length n)

module _ (s : System) where
  -- being good is a matter of the words alone
  pub good_same : (X Y : Words (Letter s)) → X ⊆ Y → Y ⊆ X → Good s X → Good s Y
  good_same X Y to from g = record {
    controller = record {
      starts = to [] g.controller.starts;
      closed = λ p z y. to p (g.controller.closed p z (from _ y));
    };
    within = λ α k y. g.within α k (from _ y);
    signals = λ w y u. ∥∥₁_map (g.signals w (from w y) u) (λ t. (t.0, to _ t.1));
    continues = λ α k y c e i want. ∥∥₁_map (g.continues α k (from _ y) c e i want) (λ t. (t.0, t.1, t.2, to _ t.3));
  }

  -- where the start is kept after the last round
  module _ (m : SetAutomaton s) (f : Finite s m) (n : ℕ) (r : Rounds s m f n) (h : T (after s m f n m.start))
      {D : Type 0} (step : D → Letter s → Option D) (d0 : D) (t : Renamed s m (after s m f n) step d0) where
    pub table_good : Good s (Runs step d0)
    table_good = good_same (Unblocked s m f n) (Runs step d0)
        (λ w. (renamed_words s m (after s m f n) step d0 t h w).1)
        (λ w. (renamed_words s m (after s m f n) step d0 t h w).0)
        (unblocked_good s m f n r h)

    pub table_largest : (X : Words (Letter s)) → Good s X → X ⊆ Runs step d0
    table_largest X g w x = (renamed_words s m (after s m f n) step d0 t h w).1 (good_part s m f n X g w x)
