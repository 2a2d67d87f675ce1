-- What a function of rows gives for the rows of a next table: for one place, for places after one another, for the first of them, and how much at most.
-- Assumes nothing.
use Rattle.std.specs.Prelude.{if◌then◌else◌}
use mathlib.Core.Path.{◌≡◌, refl, ap, ◌∙◌}
use mathlib.Core.Logic.{◌≢◌}
use mathlib.Core.Bool.{Bool, true, false}
use mathlib.Core.List.{List, [], ◌∷◌, ◌++◌, flat_map, append-nil, Memᴰ}
use Prim.Native.Nat.{ℕ, suc, ◌+◌, ◌*◌, ◌/◌, ◌%◌, ◌≤◌, ◌<◌}
use native.Mathlib.Nat.{zero-add, add-zero, suc-mul}
use native.Mathlib.Numerals.{add-one}
use native.Mathlib.Omega.{arith}
use lib.Dec.{eqb}
use lib.ListN.{length, get_or, take, drop, length-append, take-append-drop}
use lib.Seq.{take-suc, take-take, length-take-le}
use borrow.Author.Tests.{eq-eqb, ne_eqb, eqb-true, eqb-false}
use Rattle.pairs.proofs.Lists.{flat_map_append}
use Rattle.rules.specs.Limits.{absent}
use Rattle.rules.specs.NextTables.{listing}

-- the rows of some places, and of those after them
listing_append : (m n p : ℕ) (ts us : List ℕ) → listing m n p (ts ++ us) ≡ listing m n p ts ++ listing m n (p + length ts) us
unfolding listing
listing_append m n p [] us = rw add-zero
listing_append m n p (t ∷ ts) us =
    let after : p + suc (length ts) ≡ suc p + length ts = omega arith in
    rw (after, listing_append m n (suc p) ts us) (go (eqb t absent) (listing m n (suc p) ts))
  where
    here : List ℕ
    here = p / (m * n) ∷ p / n % m ∷ p % n ∷ t ∷ []

    rest : List (List ℕ)
    rest = listing m n (suc p + length ts) us

    go : (b : Bool) (rows : List (List ℕ)) → (if b then rows ++ rest else here ∷ rows ++ rest) ≡ (if b then rows else here ∷ rows) ++ rest
    go true rows = refl
    go false rows = refl

module _ (f : List ℕ → List ℕ) (m n : ℕ) where
  -- what the rows of the places from p on give
  abbrev each_row : ℕ → List ℕ → List ℕ
  each_row p ts = flat_map f (listing m n p ts)

  -- no place gives nothing, and so does a place that is 65535; another gives what its row gives
  pub no_places : (p : ℕ) → each_row p [] ≡ []
  unfolding listing flat_map
  no_places p = refl

  pub no_row : (p t : ℕ) (ts : List ℕ) → t ≡ absent → each_row p (t ∷ ts) ≡ each_row (suc p) ts
  unfolding listing
  no_row p t ts e = rw (eq-eqb t absent e)

  pub a_row : (p t : ℕ) (ts : List ℕ) → t ≢ absent → each_row p (t ∷ ts) ≡ f (p / (m * n) ∷ p / n % m ∷ p % n ∷ t ∷ []) ++ each_row (suc p) ts
  unfolding listing flat_map
  a_row p t ts e = rw (ne_eqb t absent e)

  pub absent_place : (p t : ℕ) → t ≡ absent → each_row p (t ∷ []) ≡ []
  absent_place p t e = no_row p t [] e ∙ no_places (suc p)

  pub present_place : (p t : ℕ) → t ≢ absent → each_row p (t ∷ []) ≡ f (p / (m * n) ∷ p / n % m ∷ p % n ∷ t ∷ [])
  present_place p t e = a_row p t [] e ∙ rw (no_places, append-nil)

  -- the rows of some places, and of those after them
  rows_append : (p : ℕ) (ts us : List ℕ) → each_row p (ts ++ us) ≡ each_row p ts ++ each_row (p + length ts) us
  rows_append p ts us = rw (listing_append, flat_map_append)

  -- one place more
  pub rows_more : (p : ℕ) (next : List ℕ) → p < length next → each_row 0 (take (p + 1) next) ≡ each_row 0 (take p next) ++ each_row p (get_or next p 0 ∷ [])
  rows_more p next h = rw (add-one, take-suc next p 0 h, rows_append, length-take-le p next (omega arith), zero-add)

  -- the first places give no more than all
  rows_few : (q : ℕ) (ts : List ℕ) → length (each_row 0 (take q ts)) ≤ length (each_row 0 ts)
  rows_few q ts =
      let e = rows_append 0 (take q ts) (drop q ts) in
      omega (arith, ap length (rw take-append-drop at e), length-append (each_row 0 (take q ts)) (each_row (0 + length (take q ts)) (drop q ts)))

  -- place p and the places before it give no more than the first `size`
  pub one_more_few : (size p : ℕ) (next : List ℕ) → p < size → size ≤ length next
      → length (each_row 0 (take p next)) + length (each_row p (get_or next p 0 ∷ [])) ≤ length (each_row 0 (take size next))
  one_more_few size p next more enough = rw (take-take (p + 1) size next (omega arith), rows_more p next (omega arith), length-append) at (rows_few (p + 1) (take size next))

  -- where no row gives more than w, so many places give no more than so many times w
  pub rows_at_most : (w p : ℕ) (ts : List ℕ) → ((q t : ℕ) → q < p + length ts → Memᴰ t ts → length (f (q / (m * n) ∷ q / n % m ∷ q % n ∷ t ∷ [])) ≤ w)
      → length (each_row p ts) ≤ length ts * w
  rows_at_most w p [] most = rw no_places (omega arith)
  rows_at_most w p (t ∷ ts) most = go (eqb t absent) refl (rows_at_most w (suc p) ts (λ q x h i. most q x (omega arith) (Memᴰ.tail i)))
    where
      go : (b : Bool) → eqb t absent ≡ b → length (each_row (suc p) ts) ≤ length ts * w → length (each_row p (t ∷ ts)) ≤ suc (length ts) * w
      go true e h = rw (no_row p t ts (eqb-true t absent e), suc-mul) (omega arith)
      go false e h = rw (a_row p t ts (eqb-false t absent e), length-append, suc-mul) (omega (arith, most p t (omega arith) (Memᴰ.head refl)))
