-- How many states of a list are kept; a round that deletes one of them leaves fewer.
-- Assumes nothing.
use mathlib.Core.Logic.{◌⊎◌, inl, inr, ⊎_elim}
use mathlib.Core.Path.{refl, sym, subst}
use mathlib.Core.Bool.{Bool, true, false}
use mathlib.Core.List.Memᴰ
use mathlib.Core.List.{List, [], ◌∷◌, Memᴰ}
use Prim.Native.Nat.{ℕ, suc, ◌≤◌, ◌<◌}
use native.Mathlib.Omega.{arith}
use lib.Dec.{T}
use lib.ListN.{length}

pub kept_or_not : (b : Bool) → T b ⊎ (¬ T b)
kept_or_not true = inl tt
kept_or_not false = inr (λ t. t)

pub stable : (b : Bool) → ¬ (¬ T b) → T b
stable b h = ⊎_elim (λ t. t) (λ f. absurd (h f)) (kept_or_not b)

tally : Bool → ℕ → ℕ
tally true n = suc n
tally false n = n

pub count : {Q : Type 0} → (Q → Bool) → List Q → ℕ
count k [] = 0
count k (q ∷ qs) = tally (k q) (count k qs)

tally_le : (b b' : Bool) {n n' : ℕ} → (T b' → T b) → n' ≤ n → tally b' n' ≤ tally b n
unfolding tally
tally_le true true i h = omega arith
tally_le true false i h = omega arith
tally_le false true i h = absurd (i tt)
tally_le false false i h = h

tally_more : (b b' : Bool) {n n' : ℕ} → (T b' → T b) → n' < n → tally b' n' < tally b n
unfolding tally
tally_more true true i h = omega arith
tally_more true false i h = omega arith
tally_more false true i h = absurd (i tt)
tally_more false false i h = h

tally_lost : (b b' : Bool) {n n' : ℕ} → T b → ¬ T b' → n' ≤ n → tally b' n' < tally b n
unfolding tally
tally_lost true true t f h = absurd (f tt)
tally_lost true false t f h = omega arith
tally_lost false b' t f h = absurd t

pub count_length : {Q : Type 0} (k : Q → Bool) (l : List Q) → count k l ≤ length l
unfolding count tally
count_length k [] = omega arith
count_length k (q ∷ l) = tally_le true (k q) (λ _. tt) (count_length k l)

lost : (b b' : Bool) → (T b × (¬ T b')) ⊎ (T b → T b')
lost true true = inr (λ _. tt)
lost true false = inl (tt, λ f. f)
lost false b' = inr (λ t. absurd t)

module _ {Q : Type 0} (k k' : Q → Bool) where
  -- a state of the list that k keeps and k' does not, or there is none
  pub find : (l : List Q) → ((q : Q) × Memᴰ q l × T (k q) × (¬ T (k' q))) ⊎ ((q : Q) → Memᴰ q l → T (k q) → T (k' q))
  find [] = inr (λ q m t. absurd (Memᴰ.not-nil m))
  find (p ∷ l) = go (lost (k p) (k' p)) (find l)
    where
      go : (T (k p) × (¬ T (k' p))) ⊎ (T (k p) → T (k' p))
          → ((q : Q) × Memᴰ q l × T (k q) × (¬ T (k' q))) ⊎ ((q : Q) → Memᴰ q l → T (k q) → T (k' q))
          → ((q : Q) × Memᴰ q (p ∷ l) × T (k q) × (¬ T (k' q))) ⊎ ((q : Q) → Memᴰ q (p ∷ l) → T (k q) → T (k' q))
      go (inl h) rest = inl (p, Memᴰ.head refl, h.0, h.1)
      go (inr h) (inl r) = inl (r.0, Memᴰ.tail r.1, r.2, r.3)
      go (inr h) (inr r) = inr (λ q d. ⊎_elim (λ e. subst (λ q. T (k q) → T (k' q)) (sym e) h) (r q) (Memᴰ.cases_cons d))

  module _ (fewer : (q : Q) → T (k' q) → T (k q)) where
    count_le : (l : List Q) → count k' l ≤ count k l
    unfolding count tally
    count_le [] = omega arith
    count_le (q ∷ l) = tally_le (k q) (k' q) (fewer q) (count_le l)

    pub count_less : (q : Q) (l : List Q) → Memᴰ q l → T (k q) → ¬ T (k' q) → count k' l < count k l
    unfolding count tally
    count_less q [] m t f = elim m [ ]
    count_less q (p ∷ l) (Memᴰ.head e) t f = tally_lost (k p) (k' p) (subst (λ q. T (k q)) e t) (subst (λ q. ¬ T (k' q)) e f) (count_le l)
    count_less q (p ∷ l) (Memᴰ.tail d) t f = tally_more (k p) (k' p) (fewer p) (count_less q l d t f)
