-- A numbered table, read from its front, meets the states first in the order of their numbers: the steps of all states and the entries of the table
-- are the same list, but for the names of the states. So a table that is met in this order also names its states in the order in which they are met.
-- Assumes nothing.
use Rattle.std.specs.Prelude.{if◌then◌else◌}
use mathlib.Core.Path.{◌≡◌, refl, sym, ap, ap₂, subst, ◌∙◌}
use mathlib.Core.Logic.{◌⊎◌, ⊎_elim}
use mathlib.Core.Bool.{Bool, true, false}
use mathlib.Core.Option.{Option, none, some}
use mathlib.Core.List.Memᴰ
use mathlib.Core.List.{List, [], ◌∷◌, map, flat_map, Memᴰ}
use Prim.Native.Nat.{ℕ, suc, ◌≤◌, ◌<◌}
use native.Mathlib.Omega.{arith}
use lib.Dec.{eqb}
use lib.ListN.{length, get_or, length-map}
use lib.Seq.{ext_get_or}
use borrow.Author.Tests.{eqb-true, eqb-false, eq-eqb, ne_eqb}
use Rattle.pairs.specs.Scans.{left}
use Rattle.pairs.proofs.Lists.{get_d_map, at_mem, length_left, get_d_left, mem_left}
use Rattle.rules.specs.Limits.{absent}
use Rattle.rules.specs.NextTables.{there}
use Rattle.rules.specs.Discover.{Numbered}
use Rattle.rules.specs.Reached.{Reaches}
use Rattle.rules.specs.FirstDiscovery.{without, firsts, targets, Leads, Discovery}
use Rattle.rules.specs.Meaning.{NextTable}
use Rattle.rules.proofs.Numbering.{Led}
use Rattle.rules.proofs.DiscoveryTable.{discovery_led, discovery_table}

-- ---- the first of each are there
of_without : (x : ℕ) (ys : List ℕ) (j : ℕ) → Memᴰ j (without x ys) → Memᴰ j ys
unfolding without
of_without x [] j m = m
of_without x (y ∷ ys) j m = go (eqb y x) (of_without x ys j) m
  where
    go : (b : Bool) → (Memᴰ j (without x ys) → Memᴰ j ys) → Memᴰ j (if b then without x ys else y ∷ without x ys) → Memᴰ j (y ∷ ys)
    go true rest m = Memᴰ.tail (rest m)
    go false rest m = ⊎_elim Memᴰ.head (λ t. Memᴰ.tail (rest t)) (Memᴰ.cases_cons m)

of_firsts : (xs : List ℕ) (j : ℕ) → Memᴰ j (firsts xs) → Memᴰ j xs
unfolding firsts
of_firsts [] j m = m
of_firsts (x ∷ xs) j m = ⊎_elim Memᴰ.head (λ t. Memᴰ.tail (of_firsts xs j (of_without x (firsts xs) j t))) (Memᴰ.cases_cons m)

abbrev AllBelow : ℕ → List ℕ → Type 0
AllBelow n xs = (j : ℕ) → Memᴰ j xs → j < n

-- ---- the numbers below n under other names, no two of which are the same
module _ (n : ℕ) (f : ℕ → ℕ) (apart : (i j : ℕ) → i < n → j < n → f i ≡ f j → i ≡ j) where
  same_test : (i j : ℕ) → i < n → j < n → eqb (f i) (f j) ≡ eqb i j
  same_test i j hi hj = go (eqb i j) refl
    where
      go : (b : Bool) → eqb i j ≡ b → eqb (f i) (f j) ≡ b
      go true e = eq-eqb (f i) (f j) (ap f (eqb-true i j e))
      go false e = ne_eqb (f i) (f j) (λ z. eqb-false i j e (apart i j hi hj z))

  map_without : (x : ℕ) (ys : List ℕ) → x < n → AllBelow n ys → map f (without x ys) ≡ without (f x) (map f ys)
  unfolding without
  map_without x [] hx b = refl
  map_without x (y ∷ ys) hx b = rw (same_test y x (b y (Memᴰ.head refl)) hx) (go (eqb y x) (map_without x ys hx (λ j m. b j (Memᴰ.tail m))))
    where
      go : (b : Bool) → map f (without x ys) ≡ without (f x) (map f ys)
          → map f (if b then without x ys else y ∷ without x ys) ≡ (if b then without (f x) (map f ys) else f y ∷ without (f x) (map f ys))
      go true rest = rest
      go false rest = ap (λ l. f y ∷ l) rest

  map_firsts : (xs : List ℕ) → AllBelow n xs → map f (firsts xs) ≡ firsts (map f xs)
  unfolding firsts
  map_firsts [] b = refl
  map_firsts (x ∷ xs) b =
      let below : AllBelow n xs = λ j m. b j (Memᴰ.tail m) in
      ap (λ l. f x ∷ l) (map_without x (firsts xs) (b x (Memᴰ.head refl)) (λ j m. below j (of_firsts xs j m)) ∙ ap (without (f x)) (map_firsts xs below))

  map_apart : (xs ys : List ℕ) → AllBelow n xs → AllBelow n ys → map f xs ≡ map f ys → xs ≡ ys
  map_apart xs ys bx by e = ext_get_or 0 xs ys same_length same
    where
      same_length : length xs ≡ length ys
      same_length = sym (length-map xs f) ∙ ap length e ∙ length-map ys f

      same : (i : ℕ) → i < length xs → get_or xs i 0 ≡ get_or ys i 0
      same i h =
          let h' : i < length ys = subst (λ m. i < m) same_length h in
          apart (get_or xs i 0) (get_or ys i 0) (bx _ (at_mem xs i 0 h)) (by _ (at_mem ys i 0 h')) (sym (get_d_map f xs i 0 0 h) ∙ ap (λ l. get_or l i 0) e ∙ get_d_map f ys i 0 0 h')

-- a list is its numbers by their places
by_places : (xs : List ℕ) → map (λ j. get_or xs j 0) (left 0 (length xs)) ≡ xs
by_places xs = ext_get_or 0 (map (λ j. get_or xs j 0) (left 0 (length xs))) xs same_length same
  where
    same_length : length (map (λ j. get_or xs j 0) (left 0 (length xs))) ≡ length xs
    same_length = length-map (left 0 (length xs)) (λ j. get_or xs j 0) ∙ length_left (length xs)

    same : (i : ℕ) → i < length (map (λ j. get_or xs j 0) (left 0 (length xs))) → get_or (map (λ j. get_or xs j 0) (left 0 (length xs))) i 0 ≡ get_or xs i 0
    same i h =
        let h' : i < length xs = subst (λ m. i < m) same_length h in
        get_d_map (λ j. get_or xs j 0) (left 0 (length xs)) i 0 0 (rw length_left h') ∙ ap (λ j. get_or xs j 0) (get_d_left (length xs) i 0 h')

-- ---- entries for steps: the table says the same, by numbers
module _ (xs : List ℕ) (few : length xs ≤ absent) where
  entry_target : (o : Option ℕ) (j : ℕ) (os : List (Option ℕ)) (ns : List ℕ) → Leads xs o j → targets os ≡ map (λ j. get_or xs j 0) (targets (map there ns))
      → targets (o ∷ os) ≡ map (λ j. get_or xs j 0) (targets (map there (j ∷ ns)))
  unfolding targets
  entry_target none j os ns l e = rw l e
  entry_target (some x) j os ns l e = rw (ne_eqb j absent (λ z. let h : j < length xs = l.0 in omega arith)) (ap₂ ◌∷◌ (sym l.1) e)

  targets_named : (os : List (Option ℕ)) (ns : List ℕ) → Led os xs ns → targets os ≡ map (λ j. get_or xs j 0) (targets (map there ns))
  unfolding targets
  targets_named [] [] led = refl
  targets_named [] (j ∷ ns) led = absurd (let e : suc (length ns) ≡ 0 = led.lengths in omega arith)
  targets_named (o ∷ os) [] led = absurd (let e : 0 ≡ suc (length os) = led.lengths in omega arith)
  targets_named (o ∷ os) (j ∷ ns) led = entry_target o j os ns (led.entries 0 (omega arith))
      (targets_named os ns (record { lengths = let e : suc (length ns) ≡ suc (length os) = led.lengths in omega arith; entries = λ p h. led.entries (suc p) (omega arith) }))

-- what a table of states leads to are its states
targets_below : (n : ℕ) (ns : List ℕ) → ((p : ℕ) → (get_or ns p absent ≡ absent) ⊎ (get_or ns p absent < n)) → AllBelow n (targets (map there ns))
unfolding targets
targets_below n [] entry j m = absurd (Memᴰ.not-nil m)
targets_below n (x ∷ ns) entry j m = go (eqb x absent) refl (targets_below n ns (λ p. entry (suc p)) j) m
  where
    go : (b : Bool) → eqb x absent ≡ b → (Memᴰ j (targets (map there ns)) → j < n) → Memᴰ j (targets ((if b then none else some x) ∷ map there ns)) → j < n
    go true e rest m = rest m
    go false e rest m = ⊎_elim (λ z. subst (λ j. j < n) (sym z) (⊎_elim (λ a. absurd (eqb-false x absent e a)) (λ h. h) (entry 0))) rest (Memᴰ.cases_cons m)

-- ---- states under names: xs has the name of each number, and ns is the table of their steps, by numbers
module _ (out : ℕ → List (Option ℕ)) (start : ℕ) (xs ns : List ℕ) (different : (i j : ℕ) → i < length xs → j < length xs → get_or xs i 0 ≡ get_or xs j 0 → i ≡ j)
    (first : get_or xs 0 0 ≡ start) (led : Led (flat_map out xs) xs ns) (table : NextTable (length xs) ns) where
  abbrev name : ℕ → ℕ
  name j = get_or xs j 0

  abbrev numbers : List ℕ
  numbers = targets (map there ns)

  numbers_below : AllBelow (length xs) (0 ∷ numbers)
  numbers_below j m = ⊎_elim (λ z. subst (λ j. j < length xs) (sym z) table.occupied) (targets_below (length xs) ns table.entry j) (Memᴰ.cases_cons m)

  -- what the table meets by numbers, the steps meet by names
  met_named : map name (firsts (0 ∷ numbers)) ≡ firsts (start ∷ targets (flat_map out xs))
  met_named = map_firsts (length xs) name different (0 ∷ numbers) numbers_below ∙ ap firsts (ap₂ ◌∷◌ first (sym (targets_named xs table.few (flat_map out xs) ns led)))

  -- so where the names are met in the order of their numbers, the numbers are met in their order
  numbers_met : xs ≡ firsts (start ∷ targets (flat_map out xs)) → firsts (0 ∷ numbers) ≡ left 0 (length xs)
  numbers_met e = map_apart (length xs) name different (firsts (0 ∷ numbers)) (left 0 (length xs)) (λ j m. numbers_below j (of_firsts (0 ∷ numbers) j m)) (mem_left (length xs))
      (met_named ∙ sym e ∙ sym (by_places xs))

  -- and the other way round
  pub names_met : firsts (0 ∷ targets (map there ns)) ≡ left 0 (length xs) → xs ≡ firsts (start ∷ targets (flat_map out xs))
  names_met e = sym (by_places xs) ∙ ap (map name) (sym e) ∙ met_named

module _ (out : ℕ → List (Option ℕ)) (start w : ℕ) (d : Numbered) (found : Discovery out start w d) where
  -- the states are the first of each that their steps meet; with numbers for names, 0, 1, 2, .. are those that the entries meet
  pub read_in_order : ((x : ℕ) → Reaches out start x → length (out x) ≡ w) → length d.states ≤ absent
      → firsts (0 ∷ targets (map there d.next)) ≡ left 0 (length d.states)
  read_in_order wide few = numbers_met out start d.states d.next found.different found.start_first
      (discovery_led out start w d found wide) (discovery_table out start w d found few) found.first_discovery
