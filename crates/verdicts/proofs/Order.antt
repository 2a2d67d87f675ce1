-- The order of refusals of the check, on records written by hand from document 01, computed: each input has the next fault of the order too.
-- Assumes nothing.
use mathlib.Core.Path.{◌≡◌, refl}
use Prim.Native.Nat.{ℕ}
use mathlib.Core.List.{List, [], ◌∷◌}
use lib.ListN.{replicate}
use Rattle.pairs.specs.Scans.{all_with, less, total}
use Rattle.pairs.specs.Sets.{pair_limit}
use Rattle.rules.specs.Limits.{state_limit, set_numbers}
use Rattle.pairs.specs.Lent.{set_size}
use Rattle.rules.specs.Layouts.{context_layout, specification_layout, controller_layout}
use Rattle.rules.specs.Bytes.{little, numbers}
use Rattle.rules.specs.Records.{rows_of}
use Rattle.rules.specs.Faults.{head_fault, row_fault, rows_fault, fault}
use Rattle.rules.specs.Replies.{refusal, unless, ◌or_else◌, fault_reply, record_refusal}
use Rattle.rules.specs.Matching.{skid_refusal, outside_agree, letters_agree, product_fits, outside_refusal, letters_refusal, product_refusal}
use Rattle.verdicts.specs.Check.{check_refusal, check}

-- I=O=U=V=1. "States 8 and 8 pass, 5 and 13 give 9."
abbrev context : ℕ → List ℕ
context states = 0x07 ∷ 0 ∷ 0x43 ∷ 0x58 ∷ 1 ∷ 1 ∷ 1 ∷ 1 ∷ states ∷ []

abbrev specification : ℕ → ℕ → ℕ → List ℕ
specification i o states = 0x05 ∷ 0 ∷ 0x53 ∷ 0x50 ∷ i ∷ o ∷ states ∷ []

abbrev controller : ℕ → ℕ → List ℕ
controller u v = 0x06 ∷ 0 ∷ 0x43 ∷ 0x54 ∷ u ∷ v ∷ 1 ∷ 0 ∷ []

order : ((check [] [] [] []).reply
    ∷ (check (context 5) [] [] []).reply
    ∷ (check (context 5) (specification 2 1 13) [] []).reply
    ∷ (check (context 5) (specification 2 1 13) (controller 2 1) []).reply
    ∷ (check (context 5) (specification 1 2 13) (controller 2 1) []).reply
    ∷ (check (context 5) (specification 1 1 13) (controller 2 1) []).reply
    ∷ (check (context 5) (specification 1 1 13) (controller 1 2) []).reply
    ∷ (check (context 5) (specification 1 1 13) (controller 1 1) []).reply
    ∷ (check (context 8) (specification 1 1 8) (controller 1 1) (replicate 511 0)).reply
    ∷ []) ≡
    refusal 1 1 0 0
    ∷ refusal 1 2 0 0
    ∷ refusal 1 3 0 0
    ∷ refusal 8 2 0 0
    ∷ refusal 8 2 0 0
    ∷ refusal 8 3 0 0
    ∷ refusal 8 3 0 0
    ∷ refusal 9 0 0 0
    ∷ refusal 10 0 0 0
    ∷ []
unfolding less total pair_limit state_limit set_numbers set_size context_layout specification_layout controller_layout little numbers rows_of head_fault row_fault rows_fault fault unless ◌or_else◌ fault_reply record_refusal skid_refusal outside_agree letters_agree product_fits outside_refusal letters_refusal product_refusal check_refusal check all_with
order = refl

-- a refused check writes nothing
unwritten : (check (context 5) (specification 1 1 13) (controller 1 1) (replicate 514 7)).sets ≡ replicate 514 7
unfolding less total pair_limit state_limit set_numbers set_size context_layout specification_layout controller_layout little numbers rows_of head_fault row_fault rows_fault fault unless ◌or_else◌ fault_reply record_refusal skid_refusal outside_agree letters_agree product_fits outside_refusal letters_refusal product_refusal check_refusal check all_with
unwritten = refl
