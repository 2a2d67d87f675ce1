-- Document 01, "Skids to test on": K11, whose plain states double with each context state.
-- Assumes nothing.
use Rattle.std.specs.Prelude.{ℕ, suc, ◌-◌, replicate}
use mathlib.Core.List.{List, [], ◌∷◌, flat_map}
use Rattle.pairs.specs.Scans.{upward, left}
use Rattle.rules.specs.Skids.{context_record, free_two}
use Rattle.answers.specs.Solve.{SolveOutcome}
use Rattle.answers.specs.Skids.{computed}

-- "State 0 loops on i=0 with each u, goes to 1 on i=1, u=1; state k goes to k+1 on i=0 with each u, the last has no rows."
unfoldable pub k11_rows : ℕ → List (List ℕ)
unfolding left upward flat_map
k11_rows states =
    (0 ∷ 0 ∷ 0 ∷ 0 ∷ 0 ∷ 0 ∷ []) ∷ (0 ∷ 0 ∷ 0 ∷ 1 ∷ 0 ∷ 0 ∷ []) ∷ (0 ∷ 1 ∷ 0 ∷ 1 ∷ 0 ∷ 1 ∷ [])
    ∷ flat_map (λ k. (k ∷ 0 ∷ 0 ∷ 0 ∷ 0 ∷ suc k ∷ []) ∷ (k ∷ 0 ∷ 0 ∷ 1 ∷ 0 ∷ suc k ∷ []) ∷ []) (left 1 (states - 1))

-- "I=U=2, free."
unfoldable pub k11 : ℕ → List ℕ
unfolding k11_rows context_record flat_map
k11 states = context_record (2 ∷ 1 ∷ 2 ∷ 1 ∷ states ∷ []) (k11_rows states)

-- plain, into buffers with two numbers beyond their parts
unfoldable pub k11_solved : ℕ → SolveOutcome
unfolding computed k11 free_two
k11_solved states = computed 0 (k11 states) free_two (replicate 514 7) (replicate 8194 9)
