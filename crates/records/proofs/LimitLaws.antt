-- What `is_within` and `is_in_limits` need: the tests of the counts beside their limits say whether all are within, count by count; the limits
-- of each kind.
-- Assumes nothing.
use Rattle.std.specs.Prelude.{if◌then◌else◌}
use Rattle.std.specs.List.{list_all, zip}
use Rattle.std.proofs.lemmas.Bool.{cases_lt}
use mathlib.Core.Path.{refl, ◌≡◌, ◌∙◌}
use Rattle.pairs.specs.Scans.{all_with}
use mathlib.Core.Bool.{Bool, true, false, ◌&&◌}
use mathlib.Core.List.{List, [], ◌∷◌}
use mathlib.Core.Logic.{◌⊎◌, inl, inr}
use Prim.Native.Nat.{ℕ, zero, suc, ◌+◌, ◌≤◌, ◌<◌}
use native.Mathlib.Numerals.{add-one}
use native.Mathlib.Omega.{arith}
use lib.Dec.{leb}
use lib.ListN.{length, get_or, take, drop, drop_of_length-le}
use lib.Seq.{drop-cons}
use borrow.Author.Tests.{le-leb, lt-leb}
use Rattle.rules.specs.declared.Kind.{Kind}
use Rattle.rules.specs.Layouts.{layout_of}
use Rattle.rules.specs.Faults.{in_limits, Limited}
use Rattle.records.specs.declared.layouts.Layout as code
use Rattle.records.specs.Inside.{LaidOut}
use Rattle.records.proofs.CountLaws.{limits_from, count_low, count_high, count_in, counts_end}

-- what is asked of a limit and its count, and of all of them
abbrev pub limit_test : (ℕ × ℕ) → Bool
limit_test p = leb 1 p.1 && leb p.1 p.0

module _ (counts limits : List ℕ) (six : length counts ≡ 6) (few_limits : length limits ≤ 6) where
  -- the tests from place k on
  abbrev tested : ℕ → Bool
  tested k = list_all limit_test (zip (drop k limits) (drop k counts))

  module _ (k : ℕ) (whole : limits_from counts limits 0 ≡ limits_from counts limits k) where
    tested_end : length limits ≤ k → tested k ≡ limits_from counts limits 0
    tested_end end = rw (drop_of_length-le limits end) (counts_end counts limits k whole end)

    module _ (here : k < length limits) (rest : limits_from counts limits 0 ≡ limits_from counts limits (k + 1) → tested (k + 1) ≡ limits_from counts limits 0) where
      tested_step : tested k ≡ ((leb 1 (get_or counts k 0) && leb (get_or counts k 0) (get_or limits k 0)) && tested (k + 1))
      tested_step = rw (add-one, drop-cons limits k 0 here, drop-cons counts k 0 (omega arith))

      -- a count that is low, high, or within
      one_tested : tested k ≡ limits_from counts limits 0
      one_tested = tested_step ∙ go (cases_lt (get_or counts k 0) 1) (cases_lt (get_or limits k 0) (get_or counts k 0))
        where
          go : (get_or counts k 0 < 1) ⊎ (1 ≤ get_or counts k 0) → (get_or limits k 0 < get_or counts k 0) ⊎ (get_or counts k 0 ≤ get_or limits k 0)
              → ((leb 1 (get_or counts k 0) && leb (get_or counts k 0) (get_or limits k 0)) && tested (k + 1)) ≡ limits_from counts limits 0
          go (inl low) t = rw (lt-leb 1 (get_or counts k 0) low) (count_low counts limits k six few_limits whole here low)
          go (inr some) (inl high) = rw (le-leb 1 (get_or counts k 0) some, lt-leb (get_or counts k 0) (get_or limits k 0) high) (count_high counts limits k six few_limits whole here some high)
          go (inr some) (inr few) = rw (le-leb 1 (get_or counts k 0) some, le-leb (get_or counts k 0) (get_or limits k 0) few) (rest (count_in counts limits k six few_limits whole here some few))

  zip_from : (n k : ℕ) → length limits ≤ k + n → limits_from counts limits 0 ≡ limits_from counts limits k → tested k ≡ limits_from counts limits 0
  zip_from zero k enough whole = tested_end k whole (omega arith)
  zip_from (suc n) k enough whole = go (cases_lt k (length limits)) (zip_from n (k + 1) (omega arith))
    where
      go : (k < length limits) ⊎ (length limits ≤ k) → (limits_from counts limits 0 ≡ limits_from counts limits (k + 1) → tested (k + 1) ≡ limits_from counts limits 0)
          → tested k ≡ limits_from counts limits 0
      go (inl here) rest = one_tested k whole here rest
      go (inr end) rest = tested_end k whole end

  pub zip_counts : list_all limit_test (zip limits counts) ≡ in_limits (take (length limits) counts) limits
  zip_counts = zip_from (length limits) 0 (omega arith) refl

-- the same of any counts that are as many as the limits
pub zip_limits : (counts limits : List ℕ) → length limits ≤ length counts → list_all limit_test (zip limits counts) ≡ in_limits (take (length limits) counts) limits
unfolding all_with
zip_limits counts [] h = refl
zip_limits [] (l ∷ limits) h = absurd (omega arith)
zip_limits (x ∷ counts) (l ∷ limits) h = go (leb 1 x && leb x l) (zip_limits counts limits (omega arith))
  where
    go : (t : Bool) → list_all limit_test (zip limits counts) ≡ in_limits (take (length limits) counts) limits
        → (t && list_all limit_test (zip limits counts)) ≡ (if t then in_limits (take (length limits) counts) limits else false)
    go true e = e
    go false e = refl

-- the limits of the kind
pub limits_told : (kind : Kind) (s : code.Layout) → LaidOut (layout_of kind) s → (counts : List ℕ) (r : Bool) → r ≡ in_limits (take (length s.limits.now) counts) s.limits.now → Limited kind counts r
limits_told kind s known counts r e = rw (← known.limits_are) e
