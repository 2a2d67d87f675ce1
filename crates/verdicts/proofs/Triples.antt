-- The triples of the definition are exactly those reached, because its fuel suffices: a further sweep adds nothing, and more fuel changes nothing.
-- Assumes nothing.
use Rattle.std.specs.Prelude.{if◌then◌else◌}
use mathlib.Core.Path.{◌≡◌, refl, sym, ap, subst, ◌∙◌}
use mathlib.Core.Logic.{◌↔◌, ◌⊎◌, inl, inr, ⊎_elim}
use mathlib.Core.Bool.{Bool, true, false}
use mathlib.Core.List.{List}
use Prim.Native.Nat.{ℕ, zero, suc, ◌+◌, ◌-◌, ◌*◌, ◌/◌, ◌%◌, ◌≤◌, ◌<◌}
use native.Mathlib.Omega.{arith}
use lib.Dec.{T, eqb}
use lib.ListN.{length, get_or}
use borrow.Author.Tests.{eqb-true}
use Rattle.words.proofs.Count.{count, count_length, count_less, find}
use Rattle.pairs.specs.Scans.{left, same}
use Rattle.pairs.proofs.Scans.{with_equal}
use Rattle.pairs.specs.Sets.{member, pair_place}
use Rattle.pairs.proofs.Lists.{length_left, part_below, left_mem}
use Rattle.pairs.proofs.Sets.{pair_context, pair_specification}
use Rattle.rules.specs.Tables.{Skid}
use Rattle.rules.specs.Meaning.{NextTable, Legal}
use Rattle.rules.specs.Continues.{every_input}
use Rattle.verdicts.specs.Triples.{sweep, grown, start_sets, triples}
use Rattle.verdicts.proofs.Sweep.{Held, Further, sweep_adds, sweep_law_lem, sweep_length, sweep_fixed}
use Rattle.verdicts.proofs.Swept.{swept, swept_length, swept_pairs, swept_reached, swept_start, Reached, along}

further_map : {k : Skid} {asked : ℕ → ℕ → Bool} {next : List ℕ} {P Q : ℕ → ℕ → ℕ → Type 0} {a c d : ℕ} → ((a c d : ℕ) → P a c d → Q a c d) → Further k asked next P a c d → Further k asked next Q a c d
further_map h f = record { a = f.a; c = f.c; d = f.d; x = f.x; from = h f.a f.c f.d f.from; context = f.context; specification = f.specification; controller = f.controller }

module _ (k : Skid) (states : ℕ) (next : List ℕ) where
  abbrev more : List ℕ → List ℕ
  more = sweep k states next

  -- what is grown from sets after n sweeps is what some number of sweeps gives
  grown_swept : (f n : ℕ) → (m : ℕ) × (grown k states next f (swept k states next n) ≡ swept k states next m)
  unfolding grown
  grown_swept zero n = (n, refl)
  grown_swept (suc f) n = go (same (swept k states next n) (swept k states next (suc n))) (grown_swept f (suc n))
    where
      go : (b : Bool) → (m : ℕ) × (grown k states next f (swept k states next (suc n)) ≡ swept k states next m)
          → (m : ℕ) × ((if b then swept k states next n else grown k states next f (swept k states next (suc n))) ≡ swept k states next m)
      go true r = (n, refl)
      go false r = r

  -- more fuel, where a further sweep adds nothing
  grown_fixed : (g : ℕ) (sets : List ℕ) → more sets ≡ sets → grown k states next g sets ≡ sets
  unfolding grown
  grown_fixed zero sets e = refl
  grown_fixed (suc g) sets e = go (same sets (more sets)) (ap (grown k states next g) e ∙ grown_fixed g sets e)
    where
      go : (b : Bool) → grown k states next g (more sets) ≡ sets → (if b then sets else grown k states next g (more sets)) ≡ sets
      go true r = refl
      go false r = r

  grown_more : (f g : ℕ) (sets : List ℕ) → more (grown k states next f sets) ≡ grown k states next f sets → grown k states next (f + g) sets ≡ grown k states next f sets
  unfolding grown
  grown_more zero g sets e = let z : 0 + g ≡ g = omega arith in ap (λ n. grown k states next n sets) z ∙ grown_fixed g sets e
  grown_more (suc f) g sets e = let z : suc f + g ≡ suc (f + g) = omega arith in ap (λ n. grown k states next n sets) z ∙ go (same sets (more sets)) e (grown_more f g (more sets))
    where
      go : (b : Bool) → more (if b then sets else grown k states next f (more sets)) ≡ (if b then sets else grown k states next f (more sets))
          → (more (grown k states next f (more sets)) ≡ grown k states next f (more sets) → grown k states next (f + g) (more sets) ≡ grown k states next f (more sets))
          → (if b then sets else grown k states next (f + g) (more sets)) ≡ (if b then sets else grown k states next f (more sets))
      go true e rest = refl
      go false e rest = rest e

module _ (k : Skid) (asked : ℕ → ℕ → Bool) (legal : Legal k) (states : ℕ) (next : List ℕ) (table : NextTable states next) where
  abbrev In : List ℕ → ℕ → ℕ → ℕ → Type 0
  In = Held k states

  abbrev sweep_law : (sets : List ℕ) → length sets ≡ states → (a c d : ℕ) → In (more k states next sets) a c d ↔ (In sets a c d ⊎ Further k asked next (In sets) a c d)
  sweep_law = sweep_law_lem k asked legal states next table

  more_length : (sets : List ℕ) → length sets ≡ states → length (more k states next sets) ≡ states
  more_length = sweep_length k asked legal states next table

  -- a further sweep adds no triple
  abbrev Settled : List ℕ → Type 0
  Settled sets = (a c d : ℕ) → In (more k states next sets) a c d → In sets a c d

  settled_step : (sets : List ℕ) → length sets ≡ states → Settled sets → Settled (more k states next sets)
  settled_step sets e s a c d h = ⊎_elim (λ h. h) (λ f. (sweep_law sets e a c d).1 (inr (further_map s f)))
      ((sweep_law (more k states next sets) (more_length sets e) a c d).0 h)

  settled_grown : (f : ℕ) (sets : List ℕ) → length sets ≡ states → Settled sets → Settled (grown k states next f sets)
  unfolding grown
  settled_grown zero sets e s = s
  settled_grown (suc f) sets e s = go (same sets (more k states next sets)) (settled_grown f (more k states next sets) (more_length sets e) (settled_step sets e s))
    where
      go : (b : Bool) → Settled (grown k states next f (more k states next sets)) → Settled (if b then sets else grown k states next f (more k states next sets))
      go true r = s
      go false r = r

  -- all triples, by number
  abbrev width : ℕ
  width = k.n_a * k.n_c

  abbrev numbered : List ℕ
  numbered = left 0 (states * width)

  abbrev test : List ℕ → ℕ → Bool
  test sets m = member (m % width) (get_or sets (m / width) 0)

  test_at : (sets : List ℕ) (a c d : ℕ) → a < k.n_a → c < k.n_c → test sets (pair_place width d (pair_place k.n_c a c)) ≡ member (pair_place k.n_c a c) (get_or sets d 0)
  test_at sets a c d ha hc =
      let h : pair_place k.n_c a c < width = part_below k.n_c k.n_a a c ha hc in
      rw (pair_context width d (pair_place k.n_c a c) h, pair_specification width d (pair_place k.n_c a c) h)

  abbrev amount : List ℕ → ℕ
  amount sets = count (test sets) numbered

  -- a sweep adds a triple, or is the last
  adds_or_settled : (sets : List ℕ) → length sets ≡ states → (amount sets < amount (more k states next sets)) ⊎ Settled sets
  adds_or_settled sets e = ⊎_elim
      (λ n. inl (count_less (test (more k states next sets)) (test sets) (λ m t. ((sweep_adds k asked legal states next table sets e).1 (m / width) (m % width)).1 (inl t)) n.0 numbered n.1 n.2 n.3))
      (λ n. inr (λ a c d h.
      let (ha, hc, mem) = h.1 in (
        h.0,
        (
          ha,
          hc,
          subst T (test_at sets a c d ha hc)
              (n (pair_place width d (pair_place k.n_c a c)) (left_mem (states * width) (pair_place width d (pair_place k.n_c a c)) (part_below width states d (pair_place k.n_c a c) h.0 (part_below k.n_c k.n_a a c ha hc)))
              (subst T (sym (test_at (more k states next sets) a c d ha hc)) mem)),
        ),
      )))
      (find (test (more k states next sets)) (test sets) numbered)

  at_most : (sets : List ℕ) → amount sets ≤ states * width
  at_most sets = subst (λ n. amount sets ≤ n) (length_left (states * width)) (count_length (test sets) numbered)

  -- fuel for the triples that are not yet there suffices
  grown_settled : (f : ℕ) (sets : List ℕ) → length sets ≡ states → states * width ≤ amount sets + f → Settled (grown k states next f sets)
  unfolding grown
  grown_settled zero sets e h = ⊎_elim (λ l. absurd (let m = at_most (more k states next sets) in omega arith)) (λ s. s) (adds_or_settled sets e)
  grown_settled (suc f) sets e h =
      go (same sets (more k states next sets)) refl (adds_or_settled sets e) (λ l. grown_settled f (more k states next sets) (more_length sets e) (omega arith))
      (λ s. settled_grown f (more k states next sets) (more_length sets e) (settled_step sets e s))
    where
      go : (b : Bool) → same sets (more k states next sets) ≡ b → (amount sets < amount (more k states next sets)) ⊎ Settled sets
          → (amount sets < amount (more k states next sets) → Settled (grown k states next f (more k states next sets))) → (Settled sets → Settled (grown k states next f (more k states next sets)))
          → Settled (if b then sets else grown k states next f (more k states next sets))
      go true p n r s = λ a c d h. subst (λ l. In l a c d) (sym (with_equal eqb eqb-true sets (more k states next sets) p)) h
      go false p n r s = ⊎_elim r s n

  -- the fuel of the definition suffices
  triples_settled : Settled (triples k states next)
  unfolding triples
  triples_settled = grown_settled _ (start_sets k states) (swept_length k asked legal states next table 0) (omega arith)

  triples_swept : (n : ℕ) × (triples k states next ≡ swept k states next n)
  unfolding triples
  triples_swept = grown_swept k states next _ 0

  pub triples_length : length (triples k states next) ≡ states
  triples_length = let (n, e) = triples_swept in ap length e ∙ swept_length k asked legal states next table n

  pub triples_pairs : (d q : ℕ) → T (member q (get_or (triples k states next) d 0)) → q < k.n_a * k.n_c
  triples_pairs d q m = let (n, e) = triples_swept in swept_pairs k asked legal states next table n d q (subst (λ sets. T (member q (get_or sets d 0))) e m)

  triples_further : (a c d : ℕ) → Further k asked next (In (triples k states next)) a c d → In (triples k states next) a c d
  triples_further a c d f = triples_settled a c d ((sweep_law (triples k states next) triples_length a c d).1 (inr f))

  pub triples_exactly : (a c d : ℕ) → Held k states (triples k states next) a c d ↔ Reached k asked next a c d
  triples_exactly a c d =
      let (n, e) = triples_swept in (
        λ h. (swept_reached k asked legal states next table n a c d (subst (λ s. In s a c d) e h)).0,
        λ t. along k asked next (λ _. In (triples k states next)) (λ m. triples_further)
            t.0 0 0 0 0 a c d (subst (λ s. In s 0 0 0) (sym e) (swept_start k asked legal states next table n)) t.1 t.2 t.3,
      )

module _ (k : Skid) (legal : Legal k) (states : ℕ) (next : List ℕ) (table : NextTable states next) where
  -- a further sweep adds nothing
  pub triples_closed : sweep k states next (triples k states next) ≡ triples k states next
  triples_closed = sweep_fixed k every_input legal states next table (triples k states next) (triples_further k every_input legal states next table)

  -- more fuel changes nothing
  pub triples_fuel : (f : ℕ) → states * (k.n_a * k.n_c) ≤ f → grown k states next f (start_sets k states) ≡ triples k states next
  unfolding triples
  triples_fuel f h =
      let n : ℕ = states * (k.n_a * k.n_c) in
      let z : n + (f - n) ≡ f = omega arith in
      ap (λ f. grown k states next f (start_sets k states)) (sym z) ∙ grown_more k states next n (f - n) (start_sets k states) triples_closed
