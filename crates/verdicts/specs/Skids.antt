-- Document 01, "Skids to test on": what the check says of a controller, computed. The lent numbers are compared whole, two beyond their part.
-- Assumes nothing.
use Rattle.std.specs.Prelude.{ℕ, ◌-◌, Bool, ◌&&◌, eqb, length, replicate}
use mathlib.Core.List.{List, [], ◌∷◌, ◌++◌, flat_map}
use Rattle.pairs.specs.Scans.{all_with, all, any, first_place, upward, left, find, same, less, total}
use Rattle.pairs.specs.Sets.{member, join, add, pair_limit}
use Rattle.pairs.specs.Lent.{filled, set_size, encoded, encoded_sets}
use Rattle.rules.specs.declared.Reply.{Reply}
use Rattle.rules.specs.Limits.{state_limit, set_numbers}
use Rattle.rules.specs.Layouts.{context_layout, specification_layout, controller_layout}
use Rattle.rules.specs.Bytes.{little, numbers}
use Rattle.rules.specs.Records.{rows_of}
use Rattle.rules.specs.Faults.{head_fault, row_fault, rows_fault, fault}
use Rattle.rules.specs.Replies.{unless, ◌or_else◌, fault_reply, record_refusal}
use Rattle.rules.specs.NextTables.{table_of}
use Rattle.rules.specs.Tables.{specification_table, skid_of, spec_next, letters, controller_table, pairs}
use Rattle.rules.specs.Matching.{skid_refusal, outside_agree, letters_agree, product_fits, outside_refusal, letters_refusal, product_refusal}
use Rattle.rules.specs.Discover.{meet, scan, discover}
use Rattle.rules.specs.Continues.{every_input, answers, continues_on, continues}
use Rattle.rules.specs.Skids.{Case, Checking}
use Rattle.verdicts.specs.Triples.{with_triple, further, visit, sweep, grown, start_sets, triples}
use Rattle.verdicts.specs.Verdict.{own_states, incomplete, leaves, blocks, verdict}
use Rattle.verdicts.specs.Check.{CheckOutcome, check_refusal, sets_named, judge, check}

unfoldable pub checks : Case → Checking → Bool
unfolding all any first_place upward left find less total member join add pair_limit filled set_size encoded encoded_sets flat_map state_limit set_numbers context_layout specification_layout controller_layout little numbers rows_of head_fault row_fault rows_fault fault unless ◌or_else◌ fault_reply record_refusal table_of specification_table skid_of spec_next letters controller_table pairs skid_refusal outside_agree letters_agree product_fits outside_refusal letters_refusal product_refusal meet scan discover every_input answers continues_on continues with_triple further visit sweep grown start_sets triples own_states incomplete leaves blocks verdict check_refusal sets_named judge check all_with
checks c t =
    let lent : List ℕ = replicate 514 7 in
    let outcome : CheckOutcome = check c.context c.specification t.controller lent in
    let reply : Reply = outcome.reply in
    eqb reply.number t.number && eqb reply.«record» 0 && eqb reply.row 0 && eqb reply.states t.states && eqb reply.rounds 0 &&
    same outcome.sets (t.reached ++ (replicate (512 - length t.reached) 0 ++ (7 ∷ 7 ∷ [])))
