-- What a discovery says of its table, place by place: the entries are those of the steps of all states, so it is a next table of its states.
-- Assumes nothing.
use mathlib.Core.Path.{◌≡◌, sym, subst, ◌∙◌}
use mathlib.Core.Logic.{◌⊎◌, inl, ⊎_elim}
use mathlib.Core.Option.{Option, none}
use mathlib.Core.List.{List, flat_map, Memᴰ}
use Prim.Native.Nat.{ℕ, ◌+◌, ◌*◌, ◌/◌, ◌%◌, ◌≤◌, ◌<◌}
use native.Mathlib.Nat.{mul-zero, mod-lt, div-add-mod', div-lt_iff_lt-mul}
use native.Mathlib.Omega.{arith}
use lib.ListN.{length, get_or, get_or-eq_default}
use Rattle.pairs.proofs.Lists.{length_flat_map, get_d_flat_map, mem_at}
use Rattle.rules.specs.Limits.{absent}
use Rattle.rules.specs.Discover.{Numbered}
use Rattle.rules.specs.Reached.{Reaches}
use Rattle.rules.specs.FirstDiscovery.{Leads, Discovery}
use Rattle.rules.specs.Meaning.{NextTable}
use Rattle.rules.proofs.Numbering.{Led}
use Rattle.rules.proofs.Discover.{leads_known, below_or_not}

-- a place below n · w is that of one of w steps of one of n states
pub step_at_lem : (n w p : ℕ) → p < n * w → (s t : ℕ) × (s < n) × (t < w) × (s * w + t ≡ p)
step_at_lem n w p h = ⊎_elim
    (λ hw. (p / w, p % w, (div-lt_iff_lt-mul hw).1 h, mod-lt p hw, div-add-mod' p w))
    (λ none. absurd (let z : w ≡ 0 = omega arith in let h' : p < n * 0 = subst (λ w. p < n * w) z h in omega (arith, mul-zero n)))
    (below_or_not 0 w)

-- a table with the entry of each step of each state is that of the steps of all states
pub steps_led : (out : ℕ → List (Option ℕ)) (w : ℕ) (xs ns : List ℕ) → ((x : ℕ) → Memᴰ x xs → length (out x) ≡ w) → length ns ≡ length xs * w
    → ((s t : ℕ) → s < length xs → t < w → Leads xs (get_or (out (get_or xs s 0)) t none) (get_or ns (s * w + t) absent)) → Led (flat_map out xs) xs ns
steps_led out w xs ns equal size steps = record { lengths = size ∙ sym places; entries = λ p h. entry p (subst (λ m. p < m) places h) }
  where
    places : length (flat_map out xs) ≡ length xs * w
    places = length_flat_map out w xs equal

    entry : (p : ℕ) → p < length xs * w → Leads xs (get_or (flat_map out xs) p none) (get_or ns p absent)
    entry p h =
        let (s, t, hs, ht, e) = step_at_lem (length xs) w p h in
        subst (λ p. Leads xs (get_or (flat_map out xs) p none) (get_or ns p absent)) e
        (subst (λ o. Leads xs o (get_or ns (s * w + t) absent)) (sym (get_d_flat_map out w xs equal s t none 0 hs ht)) (steps s t hs ht))

module _ (out : ℕ → List (Option ℕ)) (start w : ℕ) (d : Numbered) (found : Discovery out start w d) where
  -- the start has a number
  pub occupied : 0 < length d.states
  occupied = let (i, h, e) = found.all start Reaches.here in omega arith

  -- the table is that of the steps of all states
  pub discovery_led : ((x : ℕ) → Reaches out start x → length (out x) ≡ w) → Led (flat_map out d.states) d.states d.next
  discovery_led wide = steps_led out w d.states d.next (λ x m. let (i, hi, e) = mem_at 0 m in wide x (subst (Reaches out start) e (found.reached i hi))) found.size found.steps

  pub discovery_table : length d.states ≤ absent → NextTable (length d.states) d.next
  discovery_table few = record { occupied = occupied; few = few; entry = λ p. ⊎_elim (present p) (λ h. inl (get_or-eq_default d.next absent h)) (below_or_not p (length d.next)) }
    where
      present : (p : ℕ) → p < length d.next → (get_or d.next p absent ≡ absent) ⊎ (get_or d.next p absent < length d.states)
      present p h =
          let (s, t, hs, ht, e) = step_at_lem (length d.states) w p (subst (λ m. p < m) found.size h) in
          subst (λ p. (get_or d.next p absent ≡ absent) ⊎ (get_or d.next p absent < length d.states)) e
          (leads_known d.states (get_or (out (get_or d.states s 0)) t none) (get_or d.next (s * w + t) absent) (found.steps s t hs ht))
