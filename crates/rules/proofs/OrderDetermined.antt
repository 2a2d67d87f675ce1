-- What `Discovery` says of the states determines their order: two lists of which it holds are equal. So it names one numbering, whatever finds it.
-- Assumes nothing.
use mathlib.Core.Path.{◌≡◌, refl, sym, ap, ◌∙◌}
use mathlib.Core.Logic.{⊎_elim}
use mathlib.Core.Option.{Option}
use mathlib.Core.List.Memᴰ
use mathlib.Core.List.{List, ◌∷◌, ◌++◌, flat_map, Memᴰ}
use Prim.Native.Nat.{ℕ, zero, suc, ◌≤◌, ◌<◌}
use native.Mathlib.Omega.{arith}
use lib.ListN.{length, get_or, take, drop, take-append-drop, get_or-append}
use lib.Seq.{length-take-le, take_all, take-append-le, get_or-take}
use Rattle.pairs.proofs.Lists.{flat_map_append, mem_at, at_mem}
use Rattle.rules.specs.Discover.{Numbered}
use Rattle.rules.specs.Reached.{Reaches, Different}
use Rattle.rules.specs.FirstDiscovery.{firsts, targets, Discovery}
use Rattle.rules.proofs.Firsts.{targets_append, mem_targets, firsts_append, mem_firsts}
use Rattle.rules.proofs.Reached.{mem_flat_map}
use Rattle.rules.proofs.Discover.{below_or_not}

module _ (out : ℕ → List (Option ℕ)) (start : ℕ) where
  -- what is met by the steps of the states xs
  abbrev pub met : List ℕ → List ℕ
  met xs = firsts (start ∷ targets (flat_map out xs))

  -- the states behind any front only add to what the front meets
  met_front : (n : ℕ) (xs : List ℕ) → (zs : List ℕ) × (met xs ≡ met (take n xs) ++ zs)
  met_front n xs =
      let (zs, e) = firsts_append (start ∷ targets (flat_map out (take n xs))) (targets (flat_map out (drop n xs))) in (
        zs,
        ap (λ ys. firsts (start ∷ ys)) (ap (λ ys. targets (flat_map out ys)) (sym (take-append-drop n xs))
            ∙ ap targets (flat_map_append out (take n xs) (drop n xs)) ∙ targets_append (flat_map out (take n xs)) (flat_map out (drop n xs))) ∙ e,
      )

  -- a front that meets only itself holds all that is reached
  closed : (ys : List ℕ) → ((i : ℕ) → i < length (met ys) → Memᴰ (get_or (met ys) i 0) ys) → (x : ℕ) → Reaches out start x → Memᴰ x (met ys)
  closed ys in_front x Reaches.here = mem_firsts (start ∷ targets (flat_map out ys)) (Memᴰ.head refl)
  closed ys in_front y (Reaches.onward {x = x} r m) =
      let (i, h, e) = mem_at 0 (closed ys in_front x r) in
      mem_firsts (start ∷ targets (flat_map out ys)) (Memᴰ.tail (mem_targets (flat_map out ys) (mem_flat_map out ys (Memᴰ.cast (sym e) (in_front i h)) m)))

  -- a front that is not all meets more than itself
  module _ (xs : List ℕ) (different : Different (Reaches out start) xs) (first : xs ≡ met xs) where
    meets_more : (n : ℕ) → n < length xs → n < length (met (take n xs))
    meets_more n h = ⊎_elim (λ m. m) (λ few. absurd (all_there few)) (below_or_not n (length (met (take n xs))))
      where
        at : (i : ℕ) → i < length (met (take n xs)) → get_or xs i 0 ≡ get_or (met (take n xs)) i 0
        at i hi = let (zs, e) = met_front n xs in ap (λ ys. get_or ys i 0) (first ∙ e) ∙ get_or-append (met (take n xs)) zs 0 i hi

        in_front : length (met (take n xs)) ≤ n → (i : ℕ) → i < length (met (take n xs)) → Memᴰ (get_or (met (take n xs)) i 0) (take n xs)
        in_front few i hi = Memᴰ.cast (sym (get_or-take n xs i 0 (omega arith) ∙ at i hi)) (at_mem (take n xs) i 0 (rw (length-take-le n xs (omega arith)) (omega arith)))

        all_there : length (met (take n xs)) ≤ n → ⊥
        all_there few =
            let (i, hi, e) = mem_at 0 (closed (take n xs) (in_front few) (get_or xs n 0) (different.each n h)) in
            let same : i ≡ n = different.distinct i n (omega arith) h (at i hi ∙ e) in
            omega arith

  same_front : (xs ys : List ℕ) → Different (Reaches out start) xs → xs ≡ met xs → ys ≡ met ys → (n : ℕ) → n ≤ length xs → take n xs ≡ take n ys
  same_front xs ys different first first' zero h = refl
  same_front xs ys different first first' (suc n) h =
      let (zs, e) = met_front n xs in
      let (zs', e') = met_front n ys in
      let long : n < length (met (take n xs)) = meets_more xs different first n h in
      let same : take n xs ≡ take n ys = same_front xs ys different first first' n (omega arith) in
      ap (take (suc n)) (first ∙ e) ∙ take-append-le (suc n) (met (take n xs)) zs long
      ∙ sym (ap (take (suc n)) (first' ∙ e' ∙ ap (λ l. met l ++ zs') (sym same)) ∙ take-append-le (suc n) (met (take n xs)) zs' long)

  pub same_states : (xs ys : List ℕ) → Different (Reaches out start) xs → Different (Reaches out start) ys → xs ≡ met xs → ys ≡ met ys → xs ≡ ys
  same_states xs ys different different' first first' = ⊎_elim
      (λ h. sym (take_all (length ys) xs (omega arith)) ∙ sym (same_front ys xs different' first' first (length ys) (omega arith)) ∙ take_all (length ys) ys (omega arith))
      (λ h. sym (take_all (length xs) xs (omega arith)) ∙ same_front xs ys different first first' (length xs) (omega arith) ∙ take_all (length xs) ys h)
      (below_or_not (length xs) (length ys))

  pub order_determined : (w : ℕ) (d d' : Numbered) → Discovery out start w d → Discovery out start w d' → d.states ≡ d'.states
  order_determined w d d' k k' = same_states d.states d'.states
      (record { distinct = k.different; each = k.reached }) (record { distinct = k'.different; each = k'.reached }) k.first_discovery k'.first_discovery
