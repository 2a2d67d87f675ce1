-- Counts within their limits, count by count: those from place k on decide where those before it are within theirs.
-- Assumes nothing.
use Rattle.std.specs.Prelude.{if◌then◌else◌}
use mathlib.Core.Path.{◌≡◌, sym, ◌∙◌}
use mathlib.Core.Bool.{Bool, true, false, ◌&&◌}
use mathlib.Core.List.{List}
use Prim.Native.Nat.{ℕ, ◌+◌, ◌≤◌, ◌<◌}
use native.Mathlib.Omega.{arith}
use lib.Dec.{leb}
use lib.ListN.{length, get_or, take, drop, length-take}
use lib.Seq.{get_or-take, length-take-le}
use borrow.Author.Tests.{le-leb, lt-leb}
use Rattle.pairs.proofs.Scans.{with_step, with_done}
use Rattle.rules.specs.Faults.{in_limits}

-- as many counts as limits, from place k on
abbrev pub limits_from : List ℕ → List ℕ → ℕ → Bool
limits_from counts limits k = in_limits (drop k (take (length limits) counts)) (drop k limits)

module _ (counts limits : List ℕ) (k : ℕ) (here : k < length limits) (enough : length limits ≤ length counts) where
  -- the count at place k, and then those after it
  limits_step : limits_from counts limits k ≡ (if leb 1 (get_or counts k 0) && leb (get_or counts k 0) (get_or limits k 0) then limits_from counts limits (k + 1) else false)
  limits_step =
      let front : k < length (take (length limits) counts) = rw (length-take-le (length limits) counts enough) here in
      with_step (λ x l. leb 1 x && leb x l) (take (length limits) counts) limits 0 0 k front here ∙ rw (get_or-take (length limits) counts k 0 here)

module _ (counts limits : List ℕ) (k : ℕ) where
  pub count_low : length counts ≡ 6 → length limits ≤ 6 → limits_from counts limits 0 ≡ limits_from counts limits k → k < length limits
      → get_or counts k 0 < 1 → false ≡ limits_from counts limits 0
  count_low six few_limits whole here low = sym (whole ∙ limits_step counts limits k here (omega arith) ∙ rw (lt-leb 1 (get_or counts k 0) low))

  pub count_high : length counts ≡ 6 → length limits ≤ 6 → limits_from counts limits 0 ≡ limits_from counts limits k → k < length limits
      → 1 ≤ get_or counts k 0 → get_or limits k 0 < get_or counts k 0 → false ≡ limits_from counts limits 0
  count_high six few_limits whole here some high = sym (whole ∙ limits_step counts limits k here (omega arith) ∙ rw (le-leb 1 (get_or counts k 0) some, lt-leb (get_or counts k 0) (get_or limits k 0) high))

  pub count_in : length counts ≡ 6 → length limits ≤ 6 → limits_from counts limits 0 ≡ limits_from counts limits k → k < length limits
      → 1 ≤ get_or counts k 0 → get_or counts k 0 ≤ get_or limits k 0 → limits_from counts limits 0 ≡ limits_from counts limits (k + 1)
  count_in six few_limits whole here some few = whole ∙ limits_step counts limits k here (omega arith) ∙ rw (le-leb 1 (get_or counts k 0) some, le-leb (get_or counts k 0) (get_or limits k 0) few)

  pub counts_end : limits_from counts limits 0 ≡ limits_from counts limits k → length limits ≤ k → true ≡ limits_from counts limits 0
  counts_end whole end =
      let behind : length (take (length limits) counts) ≤ k = simp length-take (omega arith) in
      sym (whole ∙ with_done (λ x l. leb 1 x && leb x l) (take (length limits) counts) limits k behind end)
