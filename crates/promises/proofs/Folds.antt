-- A fold that adds places to a set, or stops: what it ends in, from what one step does.
-- Assumes nothing.
use mathlib.Core.Path.{◌≡◌, refl, sym, subst}
use mathlib.Core.Logic.{◌↔◌, ◌⊎◌, inl, inr, ⊎_elim}
use mathlib.Core.Option.{Option, none, some}
use mathlib.Core.List.Memᴰ
use mathlib.Core.List.{List, [], ◌∷◌, foldl}
use Prim.Native.Nat.{ℕ}
use lib.Dec.{T}
use Rattle.pairs.specs.Sets.{member}
use Rattle.verdicts.proofs.Adds.{Some, some_cases}

-- L: it stops. Otherwise exactly the places of R are added to s
abbrev pub Outcome : Type 0 → (ℕ → Type 0) → ℕ → Option ℕ → Type 0
Outcome L R s none = L
Outcome L R s (some s') = (¬ L) × ((q : ℕ) → T (member q s') ↔ (T (member q s) ⊎ R q))

module _ {E : Type 0} (P : E → Type 0) where
  some_here : (x : E) (l : List E) → P x → Some (x ∷ l) P
  some_here x l p = (x, Memᴰ.head refl, p)

  some_later : (x : E) (l : List E) → Some l P → Some (x ∷ l) P
  some_later x l h = (h.0, Memᴰ.tail h.1, h.2)

module _ {E : Type 0} (f : Option ℕ → E → Option ℕ) (stopped : (x : E) → f none x ≡ none) where
  -- what has stopped stays so
  pub fold_stopped : (l : List E) → foldl f none l ≡ none
  fold_stopped [] = refl
  fold_stopped (x ∷ l) = rw (stopped x) (fold_stopped l)

  module _ (L : E → Type 0) (R : E → ℕ → Type 0) (law : (x : E) (s : ℕ) → Outcome (L x) (R x) s (f (some s) x)) where
    abbrev AnyR : List E → ℕ → Type 0
    AnyR l q = Some l (λ x. R x q)

    -- it stops where one of its steps does; otherwise it adds what each of them adds
    pub fold_law : (l : List E) (s : ℕ) → Outcome (Some l L) (AnyR l) s (foldl f (some s) l)
    fold_law [] s = (λ h. Memᴰ.not-nil h.1, λ q. (inl, ⊎_elim (λ m. m) (λ h. absurd (Memᴰ.not-nil h.1))))
    fold_law (x ∷ l) s = first (f (some s) x) (law x s) (fold_law l)
      where
        rest : (s₁ : ℕ) → Outcome (L x) (R x) s (some s₁) → (o : Option ℕ) → Outcome (Some l L) (AnyR l) s₁ o → Outcome (Some (x ∷ l) L) (AnyR (x ∷ l)) s o
        rest s₁ h none t = some_later L x l t
        rest s₁ h (some s₂) t = (
          λ m. ⊎_elim h.0 t.0 (some_cases L x l m),
          λ q. (
            λ m. ⊎_elim
                (λ m₁. ⊎_elim inl (λ r. inr (some_here (λ y. R y q) x l r)) ((h.1 q).0 m₁))
                (λ r. inr (some_later (λ y. R y q) x l r))
                ((t.1 q).0 m),
            ⊎_elim
                (λ m. (t.1 q).1 (inl ((h.1 q).1 (inl m))))
                (λ r. ⊎_elim (λ r₁. (t.1 q).1 (inl ((h.1 q).1 (inr r₁)))) (λ r₂. (t.1 q).1 (inr r₂)) (some_cases (λ y. R y q) x l r)),
          ),
        )

        first : (o : Option ℕ) → Outcome (L x) (R x) s o → ((s₁ : ℕ) → Outcome (Some l L) (AnyR l) s₁ (foldl f (some s₁) l))
            → Outcome (Some (x ∷ l) L) (AnyR (x ∷ l)) s (foldl f o l)
        first none h later = subst (Outcome (Some (x ∷ l) L) (AnyR (x ∷ l)) s) (sym (fold_stopped l)) (some_here L x l h)
        first (some s₁) h later = rest s₁ h (foldl f (some s₁) l) (later s₁)
