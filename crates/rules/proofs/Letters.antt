-- The places of letters: every letter's place is scanned, every place that is scanned is that of a letter, and no two letters have one place.
-- Assumes nothing.
use mathlib.Core.Path.{◌≡◌, sym, ap, ap₂, subst, ◌∙◌}
use mathlib.Core.Logic.{⊎_elim}
use mathlib.Core.Bool.{Bool}
use mathlib.Core.List.{Memᴰ}
use Prim.Native.Nat.{ℕ, ◌*◌, ◌/◌, ◌%◌, ◌<◌}
use native.Mathlib.Nat.{mul-zero, div-lt_iff_lt-mul, div-add-mod', mod-lt}
use native.Mathlib.Omega.{arith}
use Rattle.words.specs.System.{Letter}
use Rattle.words.proofs.Codes.{same_code}
use Rattle.pairs.specs.Sets.{context_of, specification_of}
use Rattle.pairs.proofs.Lists.{part_below, left_mem, mem_left}
use Rattle.pairs.proofs.Sets.{pair_context, pair_specification}
use Rattle.rules.specs.Tables.{Skid, letters}
use Rattle.rules.specs.Meaning.{system, letter_of}
use Rattle.rules.proofs.Discover.{below_or_not}

some_reply : (m n t : ℕ) → t < m * n → 0 < n
some_reply m n t h = ⊎_elim (λ l. l)
    (λ none. absurd (let z : n ≡ 0 = omega arith in let h' : t < m * 0 = subst (λ n. t < m * n) z h in omega (arith, mul-zero m)))
    (below_or_not 0 n)

module _ (k : Skid) (asked : ℕ → ℕ → Bool) where
  pub letter_listed : (l : Letter (system k asked)) → Memᴰ (letter_of k asked l) (letters k)
  unfolding letters
  letter_listed l = left_mem (k.n_u * k.n_v) (letter_of k asked l) (part_below k.n_v k.n_u l.0.0 l.1.0 l.0.1 l.1.1)

  pub letter_at_lem : (t : ℕ) → Memᴰ t (letters k) → (l : Letter (system k asked)) × (letter_of k asked l ≡ t)
  unfolding letters
  letter_at_lem t m =
      let h : t < k.n_u * k.n_v = mem_left (k.n_u * k.n_v) t m in
      let n : 0 < k.n_v = some_reply k.n_u k.n_v t h in
      (((t / k.n_v, (div-lt_iff_lt-mul n).1 h), (t % k.n_v, mod-lt t n)), div-add-mod' t k.n_v)

  -- u is the place divided by V, and v is what remains, as with the places of pairs
  pub letter_same : (l l' : Letter (system k asked)) → letter_of k asked l ≡ letter_of k asked l' → l ≡ l'
  letter_same l l' e = ap₂ (λ u v. (u, v))
      (same_code (sym (pair_context k.n_v l.0.0 l.1.0 l.1.1) ∙ ap (context_of k.n_v) e ∙ pair_context k.n_v l'.0.0 l'.1.0 l'.1.1))
      (same_code (sym (pair_specification k.n_v l.0.0 l.1.0 l.1.1) ∙ ap (specification_of k.n_v) e ∙ pair_specification k.n_v l'.0.0 l'.1.0 l'.1.1))
