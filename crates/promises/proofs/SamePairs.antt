-- Sets that hold places of pairs alone, and the same pairs, are equal.
-- Assumes nothing.
use mathlib.Core.Path.{◌≡◌, refl, sym, subst}
use mathlib.Core.Logic.{◌↔◌, ⊎_elim}
use mathlib.Core.Bool.{Bool, true, false}
use Prim.Native.Nat.{ℕ, ◌*◌, ◌^◌, ◌<◌}
use lib.Dec.{T}
use Rattle.pairs.specs.Sets.{member}
use Rattle.pairs.proofs.Sets.{same_members, member_beyond}
use Rattle.rules.specs.Tables.{Skid}
use Rattle.rules.specs.Meaning.{InSet}
use Rattle.rules.proofs.Discover.{below_or_not}
use Rattle.rules.proofs.DiscoveryTable.{step_at_lem}

-- tests that pass together are one
pub same_test : (a b : Bool) → (T a → T b) → (T b → T a) → a ≡ b
same_test true true f g = refl
same_test true false f g = absurd (f tt)
same_test false true f g = absurd (g tt)
same_test false false f g = refl

module _ (k : Skid) where
  abbrev pub OnlyPairs : ℕ → Type 0
  OnlyPairs s = (p : ℕ) → T (member p s) → p < k.n_a * k.n_c

  -- a number with so many bits
  pub below_only : (s : ℕ) → s < 2 ^ (k.n_a * k.n_c) → OnlyPairs s
  below_only s h p m = ⊎_elim (λ l. l) (λ l. absurd (subst T (member_beyond (k.n_a * k.n_c) p s h l) m)) (below_or_not p (k.n_a * k.n_c))

  -- each such place is that of a pair
  place_in : (s t : ℕ) → OnlyPairs s → ((a c : ℕ) → InSet k s a c → InSet k t a c) → (p : ℕ) → T (member p s) → T (member p t)
  place_in s t only h p m =
      let (a, c, ha, hc, e) = step_at_lem k.n_a k.n_c p (only p m) in
      subst (λ p. T (member p t)) e (h a c (ha, hc, subst (λ p. T (member p s)) (sym e) m)).2

  pub pairs_same : (s t : ℕ) → OnlyPairs s → OnlyPairs t → ((a c : ℕ) → InSet k s a c ↔ InSet k t a c) → s ≡ t
  pairs_same s t only only' h = same_members s t (λ p.
      same_test (member p s) (member p t) (place_in s t only (λ a c. (h a c).0) p) (place_in t s only' (λ a c. (h a c).1) p))
