-- What the functions that read numbers need: numbers of one and two bytes, and an array of six that is
-- filled number by number.
-- Assumes nothing.
use Rattle.std.specs.Prelude.{if◌then◌else◌}
use Rattle.std.specs.Int.{w16, from_le_bytes}
use mathlib.Core.Path.{◌≡◌, refl, sym, ap, ◌∙◌}
use mathlib.Core.Bool.{Bool, true, false, ◌&&◌}
use mathlib.Core.List.{List, [], ◌∷◌, ◌++◌}
use Prim.Native.Nat.{ℕ, zero, suc, ◌+◌, ◌-◌, ◌*◌, ◌^◌, ◌≤◌, ◌<◌}
use native.Mathlib.Nat.{not-suc-le-zero, le_of_suc-le-suc, add-zero}
use native.Mathlib.Omega.{arith}
use lib.Dec.{leb, eqb, leb→le}
use lib.ListN.{length, get_or, take, drop, set, replicate, length-take, length-replicate, length-append}
use lib.Pointwise.{pointwise}
use Rattle.std.proofs.lemmas.List.{drop-take}
use lib.Seq.{take_at, take-nil, take-length, get_or-drop, drop-drop, get_or-set_same, get_or-set_other}
use borrow.Author.Tests.{eqb-true, eqb-false}
use mir.Facts.{and_yes}
use Rattle.pairs.specs.Scans.{all_with, same, total}
use Rattle.pairs.proofs.Scans.{all_yes}
use Rattle.pairs.proofs.Lists.{at_mem}
use Rattle.rules.proofs.ByPlace.{length_numbers, numbers_at}
use Rattle.rules.proofs.NextTables.{get_d_replicate_same}
use Rattle.rules.specs.Bytes.{little, numbers}
use Rattle.records.specs.Inside.{padded, Small, Held, Sizes}

-- what `==` answers of two lists of numbers
pub pointwise_same : (xs ys : List ℕ) → pointwise eqb xs ys ≡ same xs ys
unfolding all_with
pointwise_same [] [] = refl
pointwise_same [] (y ∷ ys) = refl
pointwise_same (x ∷ xs) [] = refl
pointwise_same (x ∷ xs) (y ∷ ys) = go (eqb x y) (pointwise_same xs ys)
  where
    go : (t : Bool) → pointwise eqb xs ys ≡ same xs ys → (t && pointwise eqb xs ys) ≡ (if t then same xs ys else false)
    go true e = e
    go false e = refl

-- a number of one byte, and of two
pub little_one : (b : List ℕ) → little 1 b ≡ get_or b 0 0
unfolding little
little_one [] = refl
little_one (x ∷ b) = omega arith

pub little_two : (b : List ℕ) → little 2 b ≡ get_or b 0 0 + 256 * get_or b 1 0
unfolding little
little_two [] = omega arith
little_two (x ∷ []) = omega arith
little_two (x ∷ y ∷ b) = omega arith

module _ (b : List ℕ) (at size low : ℕ) (is_low : low ≡ get_or b at 0) where
  pub one_byte : (r : ℕ) → 1 ≤ size → size < 2 → r ≡ low → r ≡ little size (drop at b)
  one_byte r h k e = let one : size ≡ 1 = omega arith in e ∙ is_low ∙ sym (rw (one, little_one, get_or-drop, add-zero))

  pub two_bytes : (high both r : ℕ) → size ≤ 2 → 2 ≤ size → high ≡ get_or b (at + 1) 0 → both ≡ from_le_bytes w16 (low ∷ high ∷ []) → r ≡ both → r ≡ little size (drop at b)
  two_bytes high both r h k is_high is_both e =
      let two : size ≡ 2 = omega arith in
      e ∙ is_both ∙ sym (rw (two, little_two, get_or-drop at b 0 0, get_or-drop at b 1 0, add-zero, is_low, is_high) (omega arith))

-- ---- numbers one after the other

-- a number needs its own bytes alone, and so do several
little_alone : (w n : ℕ) (b : List ℕ) → w ≤ n → little w (take n b) ≡ little w b
unfolding little
little_alone zero n b h = refl
little_alone (suc w) n [] h = ap (little (suc w)) (take-nil n)
little_alone (suc w) zero (x ∷ b) h = absurd (not-suc-le-zero h)
little_alone (suc w) (suc n) (x ∷ b) h = ap (λ r. x + 256 * r) (little_alone w n b (le_of_suc-le-suc h))

pub numbers_alone : (ws b : List ℕ) → numbers ws (take (total ws) b) ≡ numbers ws b
unfolding numbers total
numbers_alone [] b = refl
numbers_alone (w ∷ ws) b = rw (little_alone w (w + total ws) b (omega arith), drop-take w (total ws) b, numbers_alone ws (drop w b))

total_more : (ws : List ℕ) (j : ℕ) → j < length ws → total (take (j + 1) ws) ≡ total (take j ws) + get_or ws j 0
unfolding total
total_more [] j h = absurd (not-suc-le-zero h)
total_more (w ∷ ws) zero h = omega arith
total_more (w ∷ ws) (suc j) h =
    let e : total (take (j + 1) ws) ≡ total (take j ws) + get_or ws j 0 = total_more ws j (le_of_suc-le-suc h) in
    let q : suc j + 1 ≡ suc (j + 1) = omega arith in
    rw (q, e) (omega arith)

-- an array that holds the first numbers, and the next one stored
stored : (n : ℕ) (xs : List ℕ) (j : ℕ) → j < length xs → j < n → set (take j xs ++ replicate (n - j) 0) j (get_or xs j 0) ≡ take (j + 1) xs ++ replicate (n - (j + 1)) 0
stored n [] j h k = absurd (not-suc-le-zero h)
stored zero (x ∷ xs) j h k = absurd (not-suc-le-zero k)
stored (suc n) (x ∷ xs) zero h k = let a : suc n - 0 ≡ suc n = omega arith in let e : suc n - 1 ≡ n = omega arith in rw (a, e)
stored (suc n) (x ∷ xs) (suc j) h k =
    let q : suc j + 1 ≡ suc (j + 1) = omega arith in
    let a : suc n - suc j ≡ n - j = omega arith in
    let d : suc n - suc (j + 1) ≡ n - (j + 1) = omega arith in
    rw (q, a, d) (ap (λ l. x ∷ l) (stored n xs j (le_of_suc-le-suc h) (le_of_suc-le-suc k)))

-- the first j numbers are read, up to the place
pub record Read (b : List ℕ) (at : ℕ) (sizes read : List ℕ) (place j : ℕ) : Type 0 where
  pub within : j ≤ length sizes
  pub place_is : place ≡ at + total (take j sizes)
  pub near : place ≤ length b + 32 + 2 * j
  pub so_far : read ≡ take j (numbers sizes (drop at b)) ++ replicate (6 - j) 0
  pub small : Small read

module _ (b : List ℕ) (at : ℕ) (sizes : List ℕ) where
  zeros_small : (n j : ℕ) → get_or (replicate n 0) j 0 < 65536
  zeros_small zero j = omega arith
  zeros_small (suc n) zero = omega arith
  zeros_small (suc n) (suc j) = zeros_small n j

  pub read_none : at ≤ length b + 32 → Read b at sizes (replicate 6 0) at 0
  unfolding total
  read_none h = record { within = omega arith; place_is = omega arith; near = omega arith; so_far = refl; small = zeros_small 6 }

  module _ (known : Sizes sizes) (read : List ℕ) (place j : ℕ) (r : Read b at sizes read place j) where
    module _ (more : j < length sizes) where
      size_known : (1 ≤ get_or sizes j 0) × (get_or sizes j 0 ≤ 2)
      size_known =
          let t = all_yes (λ w. leb 1 w && leb w 2) sizes known.each (get_or sizes j 0) (at_mem sizes j 0 more) in
          let (low, high) = and_yes (leb 1 (get_or sizes j 0)) (leb (get_or sizes j 0) 2) t in
          (leb→le 1 (get_or sizes j 0) low, leb→le (get_or sizes j 0) 2 high)

      pub size_some : 1 ≤ get_or sizes j 0
      size_some = size_known.0

      pub size_few : get_or sizes j 0 ≤ 2
      size_few = size_known.1

      pub place_near : place ≤ length b + 64
      place_near = omega (arith, known.few, r.near)

      pub next_fits : length b < 2 ^ 64 → length b * 1 < 2 ^ 63 → place + get_or sizes j 0 < 2 ^ 64
      next_fits h k = omega (arith, size_few, place_near)

      length_read : length read ≡ 6
      length_read = ap length r.so_far ∙ rw (length-append, length-replicate, length-take, length_numbers) (omega (arith, known.few))

      pub read_more : (x : ℕ) → x ≡ little (get_or sizes j 0) (drop place b) → x < 65536 → Read b at sizes (set read j x) (place + get_or sizes j 0) (j + 1)
      read_more x is_x below = record {
        within = omega arith;
        place_is = rw (total_more sizes j more) (omega (arith, r.place_is));
        near = omega (arith, size_few, r.near);
        so_far = rw (r.so_far, is_x, r.place_is, ← drop-drop, ← numbers_at sizes j (drop at b) more) (stored 6 (numbers sizes (drop at b)) j (rw length_numbers more) (omega (arith, known.few)));
        small = set_small;
      }
        where
          set_small : Small (set read j x)
          set_small i = go (eqb i j) refl
            where
              go : (t : Bool) → eqb i j ≡ t → get_or (set read j x) i 0 < 65536
              go true e = rw (eqb-true i j e, get_or-set_same read j x 0 (omega (arith, length_read, known.few))) below
              go false e = rw (get_or-set_other read j i x 0 (eqb-false i j e)) (r.small i)

    pub read_all : length sizes ≤ j → Held (numbers sizes (drop at b)) read
    unfolding padded
    read_all h =
        let e : j ≡ length sizes = omega (arith, r.within) in
        record { same_numbers = r.so_far ∙ rw (e, ← length_numbers sizes (drop at b), take-length); small = r.small }

-- ---- what such an array has
-- the front is the numbers, and at each place stands what they have there
pub front_held : (n : ℕ) (xs : List ℕ) → take (length xs) (padded n xs) ≡ xs
unfolding padded
front_held n xs = take_at xs (replicate (n - length xs) 0) (length xs) refl

zeros_after : (m : ℕ) (xs : List ℕ) (k : ℕ) → get_or (xs ++ replicate m 0) k 0 ≡ get_or xs k 0
zeros_after m [] k = get_d_replicate_same m k 0
zeros_after m (x ∷ xs) zero = refl
zeros_after m (x ∷ xs) (suc k) = zeros_after m xs k

pub at_held : (n : ℕ) (xs : List ℕ) (k : ℕ) → get_or (padded n xs) k 0 ≡ get_or xs k 0
unfolding padded
at_held n xs k = zeros_after (n - length xs) xs k
