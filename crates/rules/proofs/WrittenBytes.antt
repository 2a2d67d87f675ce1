-- Numbers that fit their sizes are read from their bytes as they were written, and so are rows of them, whatever the sizes.
-- Assumes nothing.
use mathlib.Core.Path.{◌≡◌, refl, ap, ap₂, ◌∙◌}
use mathlib.Core.List.{List, [], ◌∷◌, ◌++◌, flat_map, append_assoc, Memᴰ}
use Prim.Native.Nat.{ℕ, zero, suc, ◌+◌, ◌/◌, ◌^◌, ◌<◌}
use native.Mathlib.Nat.{pow-suc, mod-add-div, div-lt_iff_lt-mul}
use native.Mathlib.Omega.{arith}
use lib.ListN.{length, length-append}
use lib.Seq.{drop_at}
use Rattle.pairs.specs.Scans.{total}
use Rattle.rules.specs.Bytes.{little, bytes_of, numbers, written}
use Rattle.rules.specs.Records.{rows_of}

pub length_bytes : (n x : ℕ) → length (bytes_of n x) ≡ n
unfolding bytes_of
length_bytes zero x = refl
length_bytes (suc n) x = ap suc (length_bytes n (x / 256))

pub little_bytes : (n x : ℕ) (rest : List ℕ) → x < 256 ^ n → little n (bytes_of n x ++ rest) ≡ x
unfolding little bytes_of
little_bytes zero x rest h = let h' : x < 1 = h in omega arith
little_bytes (suc n) x rest h =
    let h' : x / 256 < 256 ^ n = (div-lt_iff_lt-mul {k = 256} (omega arith)).1 (rw pow-suc at h) in
    rw (little_bytes n (x / 256) rest h') (mod-add-div x 256)

-- as many numbers as sizes, each below what its bytes can say
abbrev pub Fit : List ℕ → List ℕ → Type 0
Fit [] [] = Unit {0}
Fit [] (x ∷ xs) = ⊥
Fit (w ∷ ws) [] = ⊥
Fit (w ∷ ws) (x ∷ xs) = (x < 256 ^ w) × Fit ws xs

pub length_written : (ws xs : List ℕ) → Fit ws xs → length (written ws xs) ≡ total ws
unfolding written total
length_written [] [] fit = refl
length_written [] (x ∷ xs) fit = absurd fit
length_written (w ∷ ws) [] fit = absurd fit
length_written (w ∷ ws) (x ∷ xs) fit = length-append (bytes_of w x) (written ws xs) ∙ ap₂ ◌+◌ (length_bytes w x) (length_written ws xs fit.1)

pub numbers_written : (ws xs rest : List ℕ) → Fit ws xs → numbers ws (written ws xs ++ rest) ≡ xs
unfolding numbers written
numbers_written [] [] rest fit = refl
numbers_written [] (x ∷ xs) rest fit = absurd fit
numbers_written (w ∷ ws) [] rest fit = absurd fit
numbers_written (w ∷ ws) (x ∷ xs) rest fit =
    rw (append_assoc, little_bytes w x (written ws xs ++ rest) fit.0, drop_at (bytes_of w x) (written ws xs ++ rest) w (length_bytes w x), numbers_written ws xs rest fit.1)

pub rows_written : (ws : List ℕ) (rows : List (List ℕ)) → ((r : List ℕ) → Memᴰ r rows → Fit ws r) → rows_of ws (length rows) (flat_map (written ws) rows) ≡ rows
unfolding rows_of flat_map
rows_written ws [] fit = refl
rows_written ws (r ∷ rows) fit =
    let here = fit r (Memᴰ.head refl) in
    rw (
      numbers_written ws r (flat_map (written ws) rows) here,
      drop_at (written ws r) (flat_map (written ws) rows) (total ws) (length_written ws r here),
      rows_written ws rows (λ r m. fit r (Memᴰ.tail m)),
    )
