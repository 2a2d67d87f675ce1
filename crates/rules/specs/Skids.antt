-- Document 01, "Skids to test on": K1 to K10 as bytes, with what document 01 says of each, and four skids more for what these leave open.
-- Written from document 01; what the definitions make of them is stated where they are computed.
-- Assumes nothing.
use Rattle.std.specs.Prelude.{ℕ, suc, ◌+◌, ◌*◌, Bool, length, if◌then◌else◌}
use mathlib.Core.List.{List, [], ◌∷◌, ◌++◌, map, flat_map}

-- what solving gives in a mode: number, states, rounds, each state's set, and the rows (state, u, v, next) of the table
pub record Solving : Type 0 where
  pub mode : ℕ
  pub number : ℕ
  pub states : ℕ
  pub rounds : ℕ
  pub sets : List ℕ
  pub rows : List (List ℕ)

-- what the check says of a controller record: number, states, and the reached pairs of each state
pub record Checking : Type 0 where
  pub controller : List ℕ
  pub number : ℕ
  pub states : ℕ
  pub reached : List ℕ

-- what `solve` prints in a mode
pub record Printing : Type 0 where
  pub mode : ℕ
  pub text : List ℕ

pub record Case : Type 0 where
  pub context : List ℕ
  pub specification : List ℕ
  pub solving : List Solving
  pub checking : List Checking
  pub printing : List Printing

-- "Length is 7 plus 6 times the rows."; counts I, O, U, V, states; rows (state, i, v, u, o, next). Lengths here are below 256
unfoldable pub context_record : List ℕ → List (List ℕ) → List ℕ
context_record counts rows = (7 + 6 * length rows) ∷ 0 ∷ 0x43 ∷ 0x58 ∷ (counts ++ flat_map (λ r. r) rows)

-- "Length is 5 plus 4 times the rows."; counts I, O, states; rows (state, i, o, next)
unfoldable pub specification_record : List ℕ → List (List ℕ) → List ℕ
specification_record counts rows = (5 + 4 * length rows) ∷ 0 ∷ 0x53 ∷ 0x50 ∷ (counts ++ flat_map (λ r. r) rows)

-- "Length is 6 plus 6 times the rows."; counts U, V, states (2 bytes); rows (state, u, v, next) "with state and next in 2 bytes each", given as bytes
unfoldable pub controller_record : List ℕ → List (List ℕ) → List ℕ
controller_record counts rows = (6 + 6 * length rows) ∷ 0 ∷ 0x43 ∷ 0x54 ∷ (counts ++ flat_map (λ r. r) rows)

-- ""Free" specification: one state, every i and o" of two inputs and one output, and of one of each
unfoldable pub free_two : List ℕ
unfolding specification_record flat_map
free_two = specification_record (2 ∷ 1 ∷ 1 ∷ []) ((0 ∷ 0 ∷ 0 ∷ 0 ∷ []) ∷ (0 ∷ 1 ∷ 0 ∷ 0 ∷ []) ∷ [])

unfoldable pub free_one : List ℕ
unfolding specification_record flat_map
free_one = specification_record (1 ∷ 1 ∷ 1 ∷ []) ((0 ∷ 0 ∷ 0 ∷ 0 ∷ []) ∷ [])

abbrev table : ℕ → ℕ → ℕ → List ℕ → List (List ℕ) → Solving
table mode states rounds sets rows = record { mode = mode; number = 0; states = states; rounds = rounds; sets = sets; rows = rows }

-- "12, rounds"
abbrev nothing : ℕ → Solving
nothing rounds = record { mode = 1; number = 12; states = 0; rounds = rounds; sets = []; rows = [] }

abbrev judged : List ℕ → ℕ → ℕ → List ℕ → Checking
judged controller number states reached = record { controller = controller; number = number; states = states; reached = reached }

abbrev solved_only : List ℕ → List ℕ → List Solving → Case
solved_only context specification solving = record { context = context; specification = specification; solving = solving; checking = []; printing = [] }

abbrev solved_printed : List ℕ → List ℕ → List Solving → List Printing → Case
solved_printed context specification solving printing = record { context = context; specification = specification; solving = solving; checking = []; printing = printing }

abbrev prints : ℕ → List ℕ → Printing
prints mode text = record { mode = mode; text = text }

-- "I=O=U=V=2, u follows i, o follows v; specification o = i", byte for byte; what `solve` prints; K12's three verdicts; and
-- K1's answer beside a state that nothing reaches, which need not be complete
unfoldable pub k1 : Case
unfolding controller_record flat_map
k1 = record {
  context = 0x1F ∷ 0x00 ∷ 0x43 ∷ 0x58 ∷ 0x02 ∷ 0x02 ∷ 0x02 ∷ 0x02 ∷ 0x01
      ∷ 0 ∷ 0 ∷ 0 ∷ 0 ∷ 0 ∷ 0 ∷ 0 ∷ 0 ∷ 1 ∷ 0 ∷ 1 ∷ 0 ∷ 0 ∷ 1 ∷ 0 ∷ 1 ∷ 0 ∷ 0 ∷ 0 ∷ 1 ∷ 1 ∷ 1 ∷ 1 ∷ 0 ∷ [];
  specification = 0x0D ∷ 0x00 ∷ 0x53 ∷ 0x50 ∷ 0x02 ∷ 0x02 ∷ 0x01 ∷ 0 ∷ 0 ∷ 0 ∷ 0 ∷ 0 ∷ 1 ∷ 1 ∷ 0 ∷ [];
  solving =
      table 0 1 0 (1 ∷ []) ((0 ∷ 0 ∷ 0 ∷ 0 ∷ []) ∷ (0 ∷ 1 ∷ 1 ∷ 0 ∷ []) ∷ []) ∷
      table 1 1 0 (1 ∷ []) ((0 ∷ 0 ∷ 0 ∷ 0 ∷ []) ∷ (0 ∷ 1 ∷ 1 ∷ 0 ∷ []) ∷ []) ∷
      [];
  checking =
      judged (controller_record (2 ∷ 2 ∷ 1 ∷ 0 ∷ []) ((0 ∷ 0 ∷ 0 ∷ 0 ∷ 0 ∷ 0 ∷ []) ∷ [])) 14 0 [] ∷
      judged (controller_record (2 ∷ 2 ∷ 1 ∷ 0 ∷ []) ((0 ∷ 0 ∷ 0 ∷ 1 ∷ 0 ∷ 0 ∷ []) ∷ (0 ∷ 0 ∷ 1 ∷ 1 ∷ 0 ∷ 0 ∷ []) ∷ [])) 15 0 (1 ∷ []) ∷
      judged (controller_record (2 ∷ 2 ∷ 1 ∷ 0 ∷ []) ((0 ∷ 0 ∷ 0 ∷ 0 ∷ 0 ∷ 0 ∷ []) ∷ (0 ∷ 0 ∷ 1 ∷ 1 ∷ 0 ∷ 0 ∷ []) ∷ [])) 0 1 (1 ∷ []) ∷
      judged (controller_record (2 ∷ 2 ∷ 2 ∷ 0 ∷ []) ((0 ∷ 0 ∷ 0 ∷ 0 ∷ 0 ∷ 0 ∷ []) ∷ (0 ∷ 0 ∷ 1 ∷ 1 ∷ 0 ∷ 0 ∷ []) ∷ [])) 0 2 (1 ∷ 0 ∷ []) ∷
      [];
  -- "states 1 rounds 0", "0 0 0 0", "0 1 1 0"
  printing =
      record {
        mode = 1;
        text =
            115 ∷ 116 ∷ 97 ∷ 116 ∷ 101 ∷ 115 ∷ 32 ∷ 49 ∷ 32 ∷ 114 ∷ 111 ∷ 117 ∷ 110 ∷ 100 ∷ 115 ∷ 32 ∷ 48 ∷ 10
            ∷ 48 ∷ 32 ∷ 48 ∷ 32 ∷ 48 ∷ 32 ∷ 48 ∷ 10
            ∷ 48 ∷ 32 ∷ 49 ∷ 32 ∷ 49 ∷ 32 ∷ 48 ∷ 10 ∷ [];
      } ∷
      [];
}

-- "I=V=2, free. State 0: on any i, v=0 stays, v=1 goes to 1. State 1 stays on i=0 with both v and has nothing on i=1."
unfoldable pub k2 : Case
unfolding context_record flat_map free_two
k2 = solved_printed
    (context_record (2 ∷ 1 ∷ 1 ∷ 2 ∷ 2 ∷ []) (
    (0 ∷ 0 ∷ 0 ∷ 0 ∷ 0 ∷ 0 ∷ []) ∷ (0 ∷ 0 ∷ 1 ∷ 0 ∷ 0 ∷ 1 ∷ []) ∷ (0 ∷ 1 ∷ 0 ∷ 0 ∷ 0 ∷ 0 ∷ []) ∷ (0 ∷ 1 ∷ 1 ∷ 0 ∷ 0 ∷ 1 ∷ []) ∷
    (1 ∷ 0 ∷ 0 ∷ 0 ∷ 0 ∷ 1 ∷ []) ∷ (1 ∷ 0 ∷ 1 ∷ 0 ∷ 0 ∷ 1 ∷ []) ∷ []))
    free_two (
    table 0 2 0 (1 ∷ 2 ∷ []) ((0 ∷ 0 ∷ 0 ∷ 0 ∷ []) ∷ (0 ∷ 0 ∷ 1 ∷ 1 ∷ []) ∷ (1 ∷ 0 ∷ 0 ∷ 1 ∷ []) ∷ (1 ∷ 0 ∷ 1 ∷ 1 ∷ []) ∷ []) ∷
    table 1 1 1 (1 ∷ []) ((0 ∷ 0 ∷ 0 ∷ 0 ∷ []) ∷ []) ∷
    [])
    -- "states 1 rounds 1", "0 0 0 0"
    (prints 1 (115 ∷ 116 ∷ 97 ∷ 116 ∷ 101 ∷ 115 ∷ 32 ∷ 49 ∷ 32 ∷ 114 ∷ 111 ∷ 117 ∷ 110 ∷ 100 ∷ 115 ∷ 32 ∷ 49 ∷ 10
    ∷ 48 ∷ 32 ∷ 48 ∷ 32 ∷ 48 ∷ 32 ∷ 48 ∷ 10 ∷ []) ∷ [])

-- "O=2, context loops with o=1, specification o=0."
unfoldable pub k3 : Case
unfolding context_record specification_record flat_map
k3 = solved_printed
    (context_record (1 ∷ 2 ∷ 1 ∷ 1 ∷ 1 ∷ []) ((0 ∷ 0 ∷ 0 ∷ 0 ∷ 1 ∷ 0 ∷ []) ∷ []))
    (specification_record (1 ∷ 2 ∷ 1 ∷ []) ((0 ∷ 0 ∷ 0 ∷ 0 ∷ []) ∷ []))
    (table 0 1 0 (1 ∷ []) [] ∷ nothing 1 ∷ [])
    -- "refused 12 record 0 row 0 rounds 1"
    (prints 1 (114 ∷ 101 ∷ 102 ∷ 117 ∷ 115 ∷ 101 ∷ 100 ∷ 32 ∷ 49 ∷ 50 ∷ 32 ∷ 114 ∷ 101 ∷ 99 ∷ 111 ∷ 114 ∷ 100 ∷ 32 ∷ 48 ∷ 32 ∷ 114 ∷ 111 ∷ 119 ∷ 32 ∷ 48 ∷ 32 ∷ 114 ∷ 111 ∷ 117 ∷ 110 ∷ 100 ∷ 115 ∷ 32 ∷ 49 ∷ 10 ∷ []) ∷ [])

-- "U=2, context loops with u=0 only."
unfoldable pub k4 : Case
unfolding context_record flat_map free_one
k4 = solved_printed
    (context_record (1 ∷ 1 ∷ 2 ∷ 1 ∷ 1 ∷ []) ((0 ∷ 0 ∷ 0 ∷ 0 ∷ 0 ∷ 0 ∷ []) ∷ []))
    free_one
    (map (λ mode. table mode 2 0 (1 ∷ 0 ∷ [])
    ((0 ∷ 0 ∷ 0 ∷ 0 ∷ []) ∷ (0 ∷ 1 ∷ 0 ∷ 1 ∷ []) ∷ (1 ∷ 0 ∷ 0 ∷ 1 ∷ []) ∷ (1 ∷ 1 ∷ 0 ∷ 1 ∷ []) ∷ [])) (0 ∷ 1 ∷ []))
    -- "states 2 rounds 0", "0 0 0 0", "0 1 0 1", "1 0 0 1", "1 1 0 1"
    (prints 0 (115 ∷ 116 ∷ 97 ∷ 116 ∷ 101 ∷ 115 ∷ 32 ∷ 50 ∷ 32 ∷ 114 ∷ 111 ∷ 117 ∷ 110 ∷ 100 ∷ 115 ∷ 32 ∷ 48 ∷ 10
    ∷ 48 ∷ 32 ∷ 48 ∷ 32 ∷ 48 ∷ 32 ∷ 48 ∷ 10
    ∷ 48 ∷ 32 ∷ 49 ∷ 32 ∷ 48 ∷ 32 ∷ 49 ∷ 10
    ∷ 49 ∷ 32 ∷ 48 ∷ 32 ∷ 48 ∷ 32 ∷ 49 ∷ 10
    ∷ 49 ∷ 32 ∷ 49 ∷ 32 ∷ 48 ∷ 32 ∷ 49 ∷ 10 ∷ []) ∷ [])

-- "0 as in K2; 1 goes to 2 on all; 2 loops on i=0 with any v."
unfoldable pub k5 : Case
unfolding context_record flat_map free_two
k5 = solved_only
    (context_record (2 ∷ 1 ∷ 1 ∷ 2 ∷ 3 ∷ []) (
    (0 ∷ 0 ∷ 0 ∷ 0 ∷ 0 ∷ 0 ∷ []) ∷ (0 ∷ 0 ∷ 1 ∷ 0 ∷ 0 ∷ 1 ∷ []) ∷ (0 ∷ 1 ∷ 0 ∷ 0 ∷ 0 ∷ 0 ∷ []) ∷ (0 ∷ 1 ∷ 1 ∷ 0 ∷ 0 ∷ 1 ∷ []) ∷
    (1 ∷ 0 ∷ 0 ∷ 0 ∷ 0 ∷ 2 ∷ []) ∷ (1 ∷ 0 ∷ 1 ∷ 0 ∷ 0 ∷ 2 ∷ []) ∷ (1 ∷ 1 ∷ 0 ∷ 0 ∷ 0 ∷ 2 ∷ []) ∷ (1 ∷ 1 ∷ 1 ∷ 0 ∷ 0 ∷ 2 ∷ []) ∷
    (2 ∷ 0 ∷ 0 ∷ 0 ∷ 0 ∷ 2 ∷ []) ∷ (2 ∷ 0 ∷ 1 ∷ 0 ∷ 0 ∷ 2 ∷ []) ∷ []))
    free_two (
    table 0 3 0 (1 ∷ 2 ∷ 4 ∷ []) (
    (0 ∷ 0 ∷ 0 ∷ 0 ∷ []) ∷ (0 ∷ 0 ∷ 1 ∷ 1 ∷ []) ∷ (1 ∷ 0 ∷ 0 ∷ 2 ∷ []) ∷ (1 ∷ 0 ∷ 1 ∷ 2 ∷ []) ∷ (2 ∷ 0 ∷ 0 ∷ 2 ∷ []) ∷ (2 ∷ 0 ∷ 1 ∷ 2 ∷ []) ∷ []) ∷
    table 1 1 2 (1 ∷ []) ((0 ∷ 0 ∷ 0 ∷ 0 ∷ []) ∷ []) ∷
    [])

-- "loops for (i,v) = (0,0) and (1,1). Unblocked: 1 state, both v. Controller with row 0 0 0 0 alone: 16."
unfoldable pub k6 : Case
unfolding context_record controller_record flat_map free_two
k6 = record {
  context = context_record (2 ∷ 1 ∷ 1 ∷ 2 ∷ 1 ∷ []) ((0 ∷ 0 ∷ 0 ∷ 0 ∷ 0 ∷ 0 ∷ []) ∷ (0 ∷ 1 ∷ 1 ∷ 0 ∷ 0 ∷ 0 ∷ []) ∷ []);
  specification = free_two;
  solving = table 1 1 0 (1 ∷ []) ((0 ∷ 0 ∷ 0 ∷ 0 ∷ []) ∷ (0 ∷ 0 ∷ 1 ∷ 0 ∷ []) ∷ []) ∷ [];
  checking = judged (controller_record (1 ∷ 2 ∷ 1 ∷ 0 ∷ []) ((0 ∷ 0 ∷ 0 ∷ 0 ∷ 0 ∷ 0 ∷ []) ∷ [])) 16 0 (1 ∷ []) ∷ [];
  printing = [];
}

-- "I=O=2, o follows i; specification always o=0. Plain: 1 state, no rows."
unfoldable pub k7 : Case
unfolding context_record specification_record flat_map
k7 = solved_only
    (context_record (2 ∷ 2 ∷ 1 ∷ 1 ∷ 1 ∷ []) ((0 ∷ 0 ∷ 0 ∷ 0 ∷ 0 ∷ 0 ∷ []) ∷ (0 ∷ 1 ∷ 0 ∷ 0 ∷ 1 ∷ 0 ∷ []) ∷ []))
    (specification_record (2 ∷ 2 ∷ 1 ∷ []) ((0 ∷ 0 ∷ 0 ∷ 0 ∷ []) ∷ (0 ∷ 1 ∷ 0 ∷ 0 ∷ []) ∷ []))
    (table 0 1 0 (1 ∷ []) [] ∷ [])

-- "K3 with the context going to a state without rows: same replies."
unfoldable pub k8 : Case
unfolding context_record specification_record flat_map
k8 = solved_only
    (context_record (1 ∷ 2 ∷ 1 ∷ 1 ∷ 2 ∷ []) ((0 ∷ 0 ∷ 0 ∷ 0 ∷ 1 ∷ 1 ∷ []) ∷ []))
    (specification_record (1 ∷ 2 ∷ 1 ∷ []) ((0 ∷ 0 ∷ 0 ∷ 0 ∷ []) ∷ []))
    (table 0 1 0 (1 ∷ []) [] ∷ nothing 1 ∷ [])

-- "I=2; context and specification take only i=0."
unfoldable pub k9 : Case
unfolding context_record specification_record flat_map
k9 = solved_only
    (context_record (2 ∷ 1 ∷ 1 ∷ 1 ∷ 1 ∷ []) ((0 ∷ 0 ∷ 0 ∷ 0 ∷ 0 ∷ 0 ∷ []) ∷ []))
    (specification_record (2 ∷ 1 ∷ 1 ∷ []) ((0 ∷ 0 ∷ 0 ∷ 0 ∷ []) ∷ []))
    (table 0 1 0 (1 ∷ []) ((0 ∷ 0 ∷ 0 ∷ 0 ∷ []) ∷ []) ∷ nothing 1 ∷ [])

-- "context without rows."
unfoldable pub k10 : Case
unfolding context_record flat_map free_one
k10 = solved_only
    (context_record (1 ∷ 1 ∷ 1 ∷ 1 ∷ 1 ∷ []) [])
    free_one
    (table 0 2 0 (1 ∷ 0 ∷ []) ((0 ∷ 0 ∷ 0 ∷ 1 ∷ []) ∷ (1 ∷ 0 ∷ 0 ∷ 1 ∷ []) ∷ []) ∷ nothing 1 ∷ [])

-- A set of two pairs, one of them blocked: context state 0 stays on i=0 and goes to 1 on i=1; state 1 loops on i=0 alone; one letter. The set
-- {0, 1} has a blocked pair, so it goes in the first round, and the start, whose only step leads there, in the second.
unfoldable pub two_pairs : Case
unfolding context_record flat_map free_two
two_pairs = solved_only
    (context_record (2 ∷ 1 ∷ 1 ∷ 1 ∷ 2 ∷ []) ((0 ∷ 0 ∷ 0 ∷ 0 ∷ 0 ∷ 0 ∷ []) ∷ (0 ∷ 1 ∷ 0 ∷ 0 ∷ 0 ∷ 1 ∷ []) ∷ (1 ∷ 0 ∷ 0 ∷ 0 ∷ 0 ∷ 1 ∷ []) ∷ []))
    free_two
    (table 0 2 0 (1 ∷ 3 ∷ []) ((0 ∷ 0 ∷ 0 ∷ 1 ∷ []) ∷ (1 ∷ 0 ∷ 0 ∷ 1 ∷ []) ∷ []) ∷ nothing 2 ∷ [])

-- U=V=2: on (u, v) = (0, 1) state 0 goes to 2, on (1, 0) to 1; states 1 and 2 have no rows. u is scanned before v, so {2} is found before {1};
-- the empty set, met first, has number 1. Two specification states, which the one input and output exchange: the pair (2, 1) is at place 5, the
-- pair (1, 1) at place 3.
unfoldable pub u_before_v : Case
unfolding context_record specification_record flat_map
u_before_v = solved_only
    (context_record (1 ∷ 1 ∷ 2 ∷ 2 ∷ 3 ∷ []) ((0 ∷ 0 ∷ 0 ∷ 1 ∷ 0 ∷ 1 ∷ []) ∷ (0 ∷ 0 ∷ 1 ∷ 0 ∷ 0 ∷ 2 ∷ []) ∷ []))
    (specification_record (1 ∷ 1 ∷ 2 ∷ []) ((0 ∷ 0 ∷ 0 ∷ 1 ∷ []) ∷ (1 ∷ 0 ∷ 0 ∷ 0 ∷ []) ∷ []))
    (table 0 4 0 (1 ∷ 0 ∷ 32 ∷ 8 ∷ []) (
    (0 ∷ 0 ∷ 0 ∷ 1 ∷ []) ∷ (0 ∷ 0 ∷ 1 ∷ 2 ∷ []) ∷ (0 ∷ 1 ∷ 0 ∷ 3 ∷ []) ∷ (0 ∷ 1 ∷ 1 ∷ 1 ∷ []) ∷
    (1 ∷ 0 ∷ 0 ∷ 1 ∷ []) ∷ (1 ∷ 0 ∷ 1 ∷ 1 ∷ []) ∷ (1 ∷ 1 ∷ 0 ∷ 1 ∷ []) ∷ (1 ∷ 1 ∷ 1 ∷ 1 ∷ []) ∷
    (2 ∷ 0 ∷ 0 ∷ 1 ∷ []) ∷ (2 ∷ 0 ∷ 1 ∷ 1 ∷ []) ∷ (2 ∷ 1 ∷ 0 ∷ 1 ∷ []) ∷ (2 ∷ 1 ∷ 1 ∷ 1 ∷ []) ∷
    (3 ∷ 0 ∷ 0 ∷ 1 ∷ []) ∷ (3 ∷ 0 ∷ 1 ∷ 1 ∷ []) ∷ (3 ∷ 1 ∷ 0 ∷ 1 ∷ []) ∷ (3 ∷ 1 ∷ 1 ∷ 1 ∷ []) ∷ []) ∷ [])

-- State 0 goes to 1 on v=0 and to 2 on v=1; 1 is blocked as in K2, 2 loops on all: plain state 1 goes, and plain state 2 gets the number 1.
unfoldable pub renumbered : Case
unfolding context_record flat_map free_two
renumbered = solved_only
    (context_record (2 ∷ 1 ∷ 1 ∷ 2 ∷ 3 ∷ []) (
    (0 ∷ 0 ∷ 0 ∷ 0 ∷ 0 ∷ 1 ∷ []) ∷ (0 ∷ 0 ∷ 1 ∷ 0 ∷ 0 ∷ 2 ∷ []) ∷ (0 ∷ 1 ∷ 0 ∷ 0 ∷ 0 ∷ 1 ∷ []) ∷ (0 ∷ 1 ∷ 1 ∷ 0 ∷ 0 ∷ 2 ∷ []) ∷
    (1 ∷ 0 ∷ 0 ∷ 0 ∷ 0 ∷ 1 ∷ []) ∷ (1 ∷ 0 ∷ 1 ∷ 0 ∷ 0 ∷ 1 ∷ []) ∷
    (2 ∷ 0 ∷ 0 ∷ 0 ∷ 0 ∷ 2 ∷ []) ∷ (2 ∷ 0 ∷ 1 ∷ 0 ∷ 0 ∷ 2 ∷ []) ∷ (2 ∷ 1 ∷ 0 ∷ 0 ∷ 0 ∷ 2 ∷ []) ∷ (2 ∷ 1 ∷ 1 ∷ 0 ∷ 0 ∷ 2 ∷ []) ∷ []))
    free_two (
    table 0 3 0 (1 ∷ 2 ∷ 4 ∷ []) (
    (0 ∷ 0 ∷ 0 ∷ 1 ∷ []) ∷ (0 ∷ 0 ∷ 1 ∷ 2 ∷ []) ∷ (1 ∷ 0 ∷ 0 ∷ 1 ∷ []) ∷ (1 ∷ 0 ∷ 1 ∷ 1 ∷ []) ∷ (2 ∷ 0 ∷ 0 ∷ 2 ∷ []) ∷ (2 ∷ 0 ∷ 1 ∷ 2 ∷ []) ∷ []) ∷
    table 1 2 1 (1 ∷ 4 ∷ []) ((0 ∷ 0 ∷ 1 ∷ 1 ∷ []) ∷ (1 ∷ 0 ∷ 0 ∷ 1 ∷ []) ∷ (1 ∷ 0 ∷ 1 ∷ 1 ∷ []) ∷ []) ∷
    [])

-- The context has o=1 on i=0, where the specification has o=0, and nothing on i=1: a table both leaves and blocks, and "leaves" comes first.
unfoldable pub both_faults : Case
unfolding context_record specification_record controller_record flat_map
both_faults = record {
  context = context_record (2 ∷ 2 ∷ 1 ∷ 1 ∷ 1 ∷ []) ((0 ∷ 0 ∷ 0 ∷ 0 ∷ 1 ∷ 0 ∷ []) ∷ []);
  specification = specification_record (2 ∷ 2 ∷ 1 ∷ []) ((0 ∷ 0 ∷ 0 ∷ 0 ∷ []) ∷ []);
  solving = table 0 1 0 (1 ∷ []) [] ∷ nothing 1 ∷ [];
  checking = judged (controller_record (1 ∷ 1 ∷ 1 ∷ 0 ∷ []) ((0 ∷ 0 ∷ 0 ∷ 0 ∷ 0 ∷ 0 ∷ []) ∷ [])) 15 0 (1 ∷ []) ∷ [];
  printing = [];
}

unfoldable pub skids : List Case
unfolding k1 k2 k3 k4 k5 k6 k7 k8 k9 k10 two_pairs u_before_v renumbered both_faults
skids = k1 ∷ k2 ∷ k3 ∷ k4 ∷ k5 ∷ k6 ∷ k7 ∷ k8 ∷ k9 ∷ k10 ∷ two_pairs ∷ u_before_v ∷ renumbered ∷ both_faults ∷ []

-- the numbers of the skids that fail a test, from number j on
unfoldable pub failing : (Case → Bool) → ℕ → List Case → List ℕ
failing test j [] = []
failing test j (c ∷ cs) = let rest : List ℕ = failing test (suc j) cs in if test c then rest else j ∷ rest
