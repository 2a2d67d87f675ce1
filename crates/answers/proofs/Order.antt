-- The order of refusals of solving, on records written by hand from document 01, computed: each input has the next fault of the order too.
-- Assumes nothing.
use Rattle.std.specs.Prelude.{Err}
use mathlib.Core.Path.{◌≡◌, refl}
use Prim.Native.Nat.{ℕ}
use mathlib.Core.List.{List, [], ◌∷◌, map}
use lib.ListN.{replicate}
use Rattle.pairs.specs.Scans.{all_with, less, total}
use Rattle.pairs.specs.Sets.{pair_limit}
use Rattle.rules.specs.Limits.{state_limit, set_numbers, next_numbers}
use Rattle.pairs.specs.Lent.{set_size}
use Rattle.rules.specs.Layouts.{context_layout, specification_layout}
use Rattle.rules.specs.Bytes.{little, numbers}
use Rattle.rules.specs.Records.{rows_of}
use Rattle.rules.specs.Faults.{head_fault, row_fault, rows_fault, fault}
use Rattle.rules.specs.Replies.{success, refusal, unless, ◌or_else◌, fault_reply, record_refusal}
use Rattle.rules.specs.Matching.{skid_refusal, outside_agree, product_fits, outside_refusal, product_refusal}
use Rattle.answers.specs.declared.Unsolved.TheVariants.{TooMany, Nothing}
use Rattle.answers.specs.Solve.{table_found, answer_reply, solve_refusal, solve_for, solve_by, solve}

-- I=O=U=V=1. "States 8 and 8 pass, 5 and 13 give 9."
abbrev context : ℕ → List ℕ
context states = 0x07 ∷ 0 ∷ 0x43 ∷ 0x58 ∷ 1 ∷ 1 ∷ 1 ∷ 1 ∷ states ∷ []

abbrev specification : ℕ → ℕ → ℕ → List ℕ
specification i o states = 0x05 ∷ 0 ∷ 0x53 ∷ 0x50 ∷ i ∷ o ∷ states ∷ []

order : ((solve 2 [] [] [] []).reply
    ∷ (solve 1 [] [] [] []).reply
    ∷ (solve 0 (context 5) [] [] []).reply
    ∷ (solve 0 (context 5) (specification 2 1 13) [] []).reply
    ∷ (solve 1 (context 5) (specification 1 2 13) [] []).reply
    ∷ (solve 0 (context 5) (specification 1 1 13) [] []).reply
    ∷ (solve 0 (context 8) (specification 1 1 8) (replicate 511 0) (replicate 8192 0)).reply
    ∷ (solve 1 (context 8) (specification 1 1 8) (replicate 512 0) (replicate 8191 0)).reply
    ∷ []) ≡
    refusal 13 0 0 0
    ∷ refusal 1 1 0 0
    ∷ refusal 1 2 0 0
    ∷ refusal 8 2 0 0
    ∷ refusal 8 2 0 0
    ∷ refusal 9 0 0 0
    ∷ refusal 10 0 0 0
    ∷ refusal 10 0 0 0
    ∷ []
unfolding less total pair_limit state_limit set_size set_numbers next_numbers context_layout specification_layout little numbers rows_of head_fault row_fault rows_fault fault unless ◌or_else◌ fault_reply record_refusal skid_refusal outside_agree product_fits outside_refusal product_refusal solve_refusal solve_for solve_by solve all_with
order = refl

-- a refusal before 11 writes nothing
stays : (solve 2 [] [] (replicate 514 7) (replicate 8194 9) ∷ solve 1 [] [] (replicate 514 7) (replicate 8194 9) ∷ []) ≡
    record { reply = refusal 13 0 0 0; sets = replicate 514 7; next = replicate 8194 9 }
    ∷ record { reply = refusal 1 1 0 0; sets = replicate 514 7; next = replicate 8194 9 }
    ∷ []
unfolding less total context_layout little numbers rows_of head_fault row_fault rows_fault fault unless ◌or_else◌ fault_reply record_refusal skid_refusal solve_refusal solve_for solve_by solve all_with
stays = refl

-- the number and the values of each answer
numbered : map answer_reply (table_found 4 2 ∷ Err TooMany ∷ Err (Nothing 3) ∷ []) ≡ success 4 2 ∷ refusal 11 0 0 0 ∷ refusal 12 0 0 3 ∷ []
numbered = refl
