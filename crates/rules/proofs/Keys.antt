-- Keys "compared field by field": the order of keys is total and transitive on keys of one length, so that rising keys are all different.
-- Assumes nothing.
use Rattle.std.specs.Prelude.{if◌then◌else◌}
use mathlib.Core.Path.{◌≡◌, refl, sym, ap, ◌∙◌}
use mathlib.Core.Logic.{◌⊎◌, inl, inr}
use mathlib.Core.Bool.{Bool, true, false, true≢false, false≢true}
use mathlib.Core.List.{List, [], ◌∷◌, Memᴰ}
use Prim.Native.Nat.{ℕ, ◌≤◌, ◌<◌}
use native.Mathlib.Omega.{arith}
use lib.Dec.{ltb, eqb}
use lib.ListN.{length, take}
use borrow.Author.Tests.{ltb-true, ltb-false, eqb-true, eqb-false, lt-ltb, le-ltb, eq-eqb}
use Rattle.pairs.specs.Scans.{all_with, same, less}
use Rattle.pairs.proofs.Scans.{with_equal}

-- one of three
data Compared (x y : ℕ) : Type 0 where
  below : x < y → Compared x y
  equal : x ≡ y → Compared x y
  above : y < x → Compared x y

compared : (x y : ℕ) → Compared x y
compared x y = go (ltb x y) refl (eqb x y) refl
  where
    go : (b : Bool) → ltb x y ≡ b → (c : Bool) → eqb x y ≡ c → Compared x y
    go true e c f = below (ltb-true x y e)
    go false e true f = equal (eqb-true x y f)
    go false e false f = above (let h : y ≤ x = ltb-false x y e in let n = eqb-false x y f in omega arith)

less_self : (xs : List ℕ) → less xs xs ≡ false
unfolding less
less_self [] = refl
less_self (x ∷ xs) = rw (le-ltb x x (omega arith), eq-eqb x x refl) (less_self xs)

less_one : (xs ys : List ℕ) → xs ≡ ys → less xs ys ≡ true → ⊥
less_one xs ys e h = false≢true (sym (less_self xs) ∙ ap (less xs) e ∙ h)

-- a list before another: at the front, or the fronts are equal and the rests are so
pub less_front : (x y : ℕ) (xs ys : List ℕ) → less (x ∷ xs) (y ∷ ys) ≡ true → (x < y) ⊎ ((x ≡ y) × (less xs ys ≡ true))
unfolding less
less_front x y xs ys e = go (ltb x y) refl (eqb x y) refl e
  where
    go : (b : Bool) → ltb x y ≡ b → (c : Bool) → eqb x y ≡ c → (if b then true else if c then less xs ys else false) ≡ true → (x < y) ⊎ ((x ≡ y) × (less xs ys ≡ true))
    go true p c q e = inl (ltb-true x y p)
    go false p true q e = inr (eqb-true x y q, e)
    go false p false q e = absurd (false≢true e)

pub front_less : (x y : ℕ) (xs ys : List ℕ) → (x < y) ⊎ ((x ≡ y) × (less xs ys ≡ true)) → less (x ∷ xs) (y ∷ ys) ≡ true
unfolding less
front_less x y xs ys (inl h) = rw (lt-ltb x y h)
front_less x y xs ys (inr h) = let e : x ≡ y = h.0 in rw (le-ltb x y (omega arith), eq-eqb x y e) h.1

pub less_trans : (xs ys zs : List ℕ) → less xs ys ≡ true → less ys zs ≡ true → less xs zs ≡ true
unfolding less
less_trans [] [] zs p q = absurd (false≢true p)
less_trans [] (y ∷ ys) [] p q = absurd (false≢true q)
less_trans [] (y ∷ ys) (z ∷ zs) p q = refl
less_trans (x ∷ xs) [] zs p q = absurd (false≢true p)
less_trans (x ∷ xs) (y ∷ ys) [] p q = absurd (false≢true q)
less_trans (x ∷ xs) (y ∷ ys) (z ∷ zs) p q = front_less x z xs zs (go (less_front x y xs ys p) (less_front y z ys zs q) (less_trans xs ys zs))
  where
    go : (x < y) ⊎ ((x ≡ y) × (less xs ys ≡ true)) → (y < z) ⊎ ((y ≡ z) × (less ys zs ≡ true)) → (less xs ys ≡ true → less ys zs ≡ true → less xs zs ≡ true) → (x < z) ⊎ ((x ≡ z) × (less xs zs ≡ true))
    go (inl a) (inl b) rest = inl (omega arith)
    go (inl a) (inr b) rest = let e : y ≡ z = b.0 in inl (omega arith)
    go (inr a) (inl b) rest = let e : x ≡ y = a.0 in inl (omega arith)
    go (inr a) (inr b) rest = inr (a.0 ∙ b.0, rest a.1 b.1)

-- neither the same nor before: after
pub less_other : (xs ys : List ℕ) → length xs ≡ length ys → same xs ys ≡ false → less xs ys ≡ false → less ys xs ≡ true
unfolding less all_with
less_other [] [] l p q = absurd (true≢false p)
less_other [] (y ∷ ys) l p q = absurd (true≢false q)
less_other (x ∷ xs) [] l p q = absurd (omega arith)
less_other (x ∷ xs) (y ∷ ys) l p q = go (compared x y) (less_other xs ys (omega arith))
  where
    go : Compared x y → (same xs ys ≡ false → less xs ys ≡ false → less ys xs ≡ true) → less (y ∷ ys) (x ∷ xs) ≡ true
    go (below h) rest = absurd (true≢false (sym (front_less x y xs ys (inl h)) ∙ q))
    go (equal e) rest = front_less y x ys xs (inr (sym e, rest (rw (eq-eqb x y e) at p) (rw (le-ltb x y (omega arith), eq-eqb x y e) at q)))
    go (above h) rest = front_less y x ys xs (inl h)

-- a list before another is not after it, nor the same
pub less_not_less : (xs ys : List ℕ) → less xs ys ≡ true → less ys xs ≡ false
less_not_less xs ys h = go (less ys xs) refl
  where
    go : (b : Bool) → less ys xs ≡ b → b ≡ false
    go true e = absurd (false≢true (sym (less_self xs) ∙ less_trans xs ys xs h e))
    go false e = refl

pub less_not_same : (xs ys : List ℕ) → less xs ys ≡ true → same ys xs ≡ false
less_not_same xs ys h = go (same ys xs) refl
  where
    go : (b : Bool) → same ys xs ≡ b → b ≡ false
    go true e = absurd (false≢true (sym (less_self xs) ∙ ap (less xs) (sym (with_equal eqb eqb-true ys xs e)) ∙ h))
    go false e = refl

-- "Keys rise strictly": the first k fields of a row stand before those of every later row
abbrev pub KeysRise : ℕ → List (List ℕ) → Type 0
KeysRise k [] = Unit {0}
KeysRise k (r ∷ rows) = ((r' : List ℕ) → Memᴰ r' rows → less (take k r) (take k r') ≡ true) × KeysRise k rows

pub rise_one : (k : ℕ) (rows : List (List ℕ)) → KeysRise k rows → (r r' : List ℕ) → Memᴰ r rows → Memᴰ r' rows → take k r ≡ take k r' → r ≡ r'
rise_one k [] h r r' x4 _ e = elim x4 [ ]
rise_one k (x ∷ rows) h r r' (Memᴰ.head a) (Memᴰ.head b) e = a ∙ sym b
rise_one k (x ∷ rows) h r r' (Memᴰ.head a) (Memᴰ.tail b) e = absurd (less_one (take k x) (take k r') (ap (take k) (sym a) ∙ e) (h.0 r' b))
rise_one k (x ∷ rows) h r r' (Memᴰ.tail a) (Memᴰ.head b) e = absurd (less_one (take k x) (take k r) (ap (take k) (sym b) ∙ sym e) (h.0 r a))
rise_one k (x ∷ rows) h r r' (Memᴰ.tail a) (Memᴰ.tail b) e = rise_one k rows h.1 r r' a b e
