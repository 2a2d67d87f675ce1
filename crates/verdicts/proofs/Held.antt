-- The scan of all triples that the sets hold.
-- Assumes nothing.
use Rattle.std.specs.Prelude.{if◌then◌else◌}
use mathlib.Core.Path.{sym, subst}
use mathlib.Core.Logic.{◌↔◌}
use mathlib.Core.Bool.{Bool, false}
use mathlib.Core.List.{List}
use Prim.Native.Nat.{ℕ}
use native.Mathlib.Nat.{div-add-mod'}
use lib.Dec.{T}
use lib.ListN.{get_or}
use Rattle.pairs.specs.Scans.{any, left}
use Rattle.pairs.specs.Sets.{member, pair_place, context_of, specification_of}
use Rattle.pairs.proofs.Scans.{both_yes, yes_both, any_yes, yes_any}
use Rattle.pairs.proofs.Lists.{left_mem, mem_left}
use Rattle.rules.specs.Tables.{Skid, pairs}
use Rattle.rules.specs.Meaning.{Legal}
use Rattle.rules.proofs.Places.{pair_listed, at_pair}
use Rattle.verdicts.specs.Verdict.{any_triple}
use Rattle.verdicts.proofs.Sweep.{Held}

module _ (k : Skid) (legal : Legal k) (states : ℕ) (next sets : List ℕ) (test : ℕ → ℕ → Bool) where
  abbrev of_pair : ℕ → ℕ → Bool
  of_pair s p = if member p (get_or sets s 0) then test s p else false

  -- some triple passes the test exactly if a triple that is held does
  pub any_triple_lem : T (any_triple k states sets test) ↔ ((a : ℕ) × (c : ℕ) × (d : ℕ) × Held k states sets a c d × T (test d (pair_place k.n_c a c)))
  any_triple_lem = (
    λ t. let (s, ms, t₁) = any_yes (λ s. any (of_pair s) (pairs k)) (left 0 states) t in
        let (p, mp, t₂) = any_yes (of_pair s) (pairs k) t₁ in
        let (m, t₃) = both_yes (member p (get_or sets s 0)) (test s p) t₂ in
        (context_of k.n_c p, specification_of k.n_c p, s, (mem_left states s ms, at_pair k legal (get_or sets s 0) p mp m), subst (λ p. T (test s p)) (sym (div-add-mod' p k.n_c)) t₃),
    λ y. let (a, c, d, h, t) = y in
        yes_any (λ s. any (of_pair s) (pairs k)) (left 0 states) d (left_mem states d h.0)
        (yes_any (of_pair d) (pairs k) (pair_place k.n_c a c) (pair_listed k a c h.1.0 h.1.1)
        (yes_both (member (pair_place k.n_c a c) (get_or sets d 0)) (test d (pair_place k.n_c a c)) h.1.2 t)),
  )
