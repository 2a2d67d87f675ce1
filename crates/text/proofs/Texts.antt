-- Input and printed text of both programs, written by hand from document 01, computed: how the input is cut, and the refusal lines.
-- Assumes nothing.
use mathlib.Core.Path.{◌≡◌, refl}
use Prim.Native.Nat.{ℕ, ◌+◌}
use mathlib.Core.List.{List, [], ◌∷◌, ◌++◌}
use lib.ListN.{replicate}
use Rattle.pairs.specs.Scans.{all_with, less, total}
use Rattle.rules.specs.Layouts.{context_layout, specification_layout}
use Rattle.rules.specs.Bytes.{little, numbers}
use Rattle.rules.specs.Records.{rows_of}
use Rattle.rules.specs.Faults.{head_fault, row_fault, rows_fault, fault}
use Rattle.rules.specs.Replies.{success, refusal, unless, ◌or_else◌, fault_reply, record_refusal}
use Rattle.rules.specs.Matching.{skid_refusal}
use Rattle.rules.specs.Limits.{state_limit, set_numbers, next_numbers}
use Rattle.pairs.specs.Lent.{set_size}
use Rattle.verdicts.specs.Check.{check_refusal, check}
use Rattle.answers.specs.Solve.{solve_refusal, solve_for, solve_by, solve}
use Rattle.text.specs.Lines.{decimal, digits, line, states_word, rounds_word, refused_word, record_word, row_word, fits_word, refused_text, solved_line, solved_text, checked_text}
use Rattle.text.specs.Inputs.{solve_limit, fit_limit, record_end, first_record, behind}
use Rattle.text.specs.Programs.{solve_printed, solve_text, fit_printed, fit_text}

-- "refused N record K row 0 rounds 0" of one digit or two; "fits states 12"
abbrev refused_line : List ℕ → ℕ → List ℕ
refused_line n k = 114 ∷ 101 ∷ 102 ∷ 117 ∷ 115 ∷ 101 ∷ 100 ∷ 32
    ∷ (n ++ (32 ∷ 114 ∷ 101 ∷ 99 ∷ 111 ∷ 114 ∷ 100 ∷ 32 ∷ (48 + k) ∷ 32 ∷ 114 ∷ 111 ∷ 119 ∷ 32 ∷ 48 ∷ 32 ∷ 114 ∷ 111 ∷ 117 ∷ 110 ∷ 100 ∷ 115 ∷ 32 ∷ 48 ∷ 10 ∷ []))

one : List ℕ
one = 49 ∷ []

thirteen : List ℕ
thirteen = 49 ∷ 51 ∷ []

-- a row and rounds: "refused 7 record 1 row 3 rounds 0", "refused 12 record 0 row 0 rounds 10"
refusals : (refused_text (refusal 7 1 3 0) ∷ refused_text (refusal 12 0 0 10) ∷ []) ≡
    (114 ∷ 101 ∷ 102 ∷ 117 ∷ 115 ∷ 101 ∷ 100 ∷ 32 ∷ 55 ∷ 32 ∷ 114 ∷ 101 ∷ 99 ∷ 111 ∷ 114 ∷ 100 ∷ 32 ∷ 49 ∷ 32 ∷ 114 ∷ 111 ∷ 119 ∷ 32 ∷ 51 ∷ 32 ∷ 114 ∷ 111 ∷ 117 ∷ 110 ∷ 100 ∷ 115 ∷ 32 ∷ 48 ∷ 10 ∷ [])
    ∷ (114 ∷ 101 ∷ 102 ∷ 117 ∷ 115 ∷ 101 ∷ 100 ∷ 32 ∷ 49 ∷ 50 ∷ 32 ∷ 114 ∷ 101 ∷ 99 ∷ 111 ∷ 114 ∷ 100 ∷ 32 ∷ 48 ∷ 32 ∷ 114 ∷ 111 ∷ 119 ∷ 32 ∷ 48 ∷ 32 ∷ 114 ∷ 111 ∷ 117 ∷ 110 ∷ 100 ∷ 115 ∷ 32 ∷ 49 ∷ 48 ∷ 10 ∷ [])
    ∷ []
unfolding refused_text refused_word record_word row_word rounds_word line digits decimal
refusals = refl

fits : checked_text (success 12 0) ≡ 102 ∷ 105 ∷ 116 ∷ 115 ∷ 32 ∷ 115 ∷ 116 ∷ 97 ∷ 116 ∷ 101 ∷ 115 ∷ 32 ∷ 49 ∷ 50 ∷ 10 ∷ []
unfolding checked_text fits_word states_word line digits decimal
fits = refl

-- one byte more than the longest input, and the longest; no byte at all; mode 2; a mode byte alone; a context length of 0 and of 1, one too long, and one that is exact
solves : (solve_text (replicate 28690 0)
    ∷ solve_text (2 ∷ replicate 28688 0)
    ∷ solve_text []
    ∷ solve_text (2 ∷ [])
    ∷ solve_text (1 ∷ [])
    ∷ solve_text (0 ∷ 0 ∷ 0 ∷ 0x43 ∷ [])
    ∷ solve_text (0 ∷ 1 ∷ 0 ∷ 0x43 ∷ 0x58 ∷ [])
    ∷ solve_text (0 ∷ 8 ∷ 0 ∷ 0x43 ∷ 0x58 ∷ 1 ∷ 1 ∷ 1 ∷ 1 ∷ 1 ∷ [])
    ∷ solve_text (0 ∷ 7 ∷ 0 ∷ 0x43 ∷ 0x58 ∷ 1 ∷ 1 ∷ 1 ∷ 1 ∷ 1 ∷ [])
    ∷ []) ≡
    refused_line one 0
    ∷ refused_line thirteen 0
    ∷ refused_line thirteen 0
    ∷ refused_line thirteen 0
    ∷ refused_line one 1
    ∷ refused_line one 1
    ∷ refused_line one 1
    ∷ refused_line one 1
    ∷ refused_line one 2
    ∷ []
unfolding one thirteen less total state_limit set_size set_numbers next_numbers context_layout specification_layout little numbers rows_of head_fault row_fault rows_fault fault unless ◌or_else◌ fault_reply record_refusal skid_refusal solve_refusal solve_for solve_by solve decimal digits line states_word rounds_word refused_word record_word row_word refused_text solved_line solved_text solve_limit record_end first_record behind solve_printed solve_text all_with
solves = refl

-- one byte too many, and none too many; no byte at all; a context and no specification; a context, a specification and no controller
checks : (fit_text (replicate 77849 0)
    ∷ fit_text (replicate 77848 0)
    ∷ fit_text []
    ∷ fit_text (7 ∷ 0 ∷ 0x43 ∷ 0x58 ∷ 1 ∷ 1 ∷ 1 ∷ 1 ∷ 1 ∷ [])
    ∷ fit_text (7 ∷ 0 ∷ 0x43 ∷ 0x58 ∷ 1 ∷ 1 ∷ 1 ∷ 1 ∷ 1 ∷ 5 ∷ 0 ∷ 0x53 ∷ 0x50 ∷ 1 ∷ 1 ∷ 1 ∷ [])
    ∷ []) ≡
    refused_line one 0
    ∷ refused_line one 1
    ∷ refused_line one 1
    ∷ refused_line one 2
    ∷ refused_line one 3
    ∷ []
unfolding one less total state_limit set_size set_numbers context_layout specification_layout little numbers rows_of head_fault row_fault rows_fault fault unless ◌or_else◌ fault_reply record_refusal skid_refusal check_refusal check decimal digits line rounds_word refused_word record_word row_word refused_text checked_text fit_limit record_end first_record behind fit_printed fit_text all_with
checks = refl
