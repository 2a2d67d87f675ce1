-- Document 01: "next states at place state·U·V + u·V + v, 65535 where absent". A next table of so many states with m·n steps each, of the rows
-- (state, x, y, next): a controller by U and V, a specification by I and O.
-- Assumes nothing.
use Rattle.std.specs.Prelude.{ℕ, suc, ◌+◌, ◌*◌, ◌/◌, ◌%◌, Bool, true, false, eqb, get_or, set, replicate, if◌then◌else◌}
use Rattle.std.proofs.Math.Option.{Option, none, some}
use mathlib.Core.List.{List, [], ◌∷◌, foldl}
use Rattle.rules.specs.Limits.{absent}

-- the place of the step (x, y) of a state
abbrev pub step_place : ℕ → ℕ → ℕ → ℕ → ℕ → ℕ
step_place m n s x y = s * (m * n) + (x * n + y)

-- what an entry says: 65535 is no state
abbrev pub there : ℕ → Option ℕ
there j = if eqb j absent then none else some j

abbrev pub is_present : Option ℕ → Bool
is_present none = false
is_present (some j) = true

-- a table with the step of a row
abbrev pub with_row : ℕ → ℕ → List ℕ → List ℕ → List ℕ
with_row m n table r = set table (step_place m n (get_or r 0 0) (get_or r 1 0) (get_or r 2 0)) (get_or r 3 0)

-- the table of the rows
unfoldable pub table_of : ℕ → ℕ → ℕ → List (List ℕ) → List ℕ
table_of m n states rows = foldl (with_row m n) (replicate (states * (m * n)) absent) rows

-- the rows of a table, from place p on: "a row for each place that is not 65535"
unfoldable pub listing : ℕ → ℕ → ℕ → List ℕ → List (List ℕ)
listing m n p [] = []
listing m n p (t ∷ ts) =
    let rest : List (List ℕ) = listing m n (suc p) ts in
    let here : List ℕ = p / (m * n) ∷ p / n % m ∷ p % n ∷ t ∷ [] in
    if eqb t absent then rest else here ∷ rest
