-- Document 01, "Skids to test on": what solving gives, computed. Both lent buffers are compared whole, numbers beyond their parts too.
-- Assumes nothing.
use Rattle.std.specs.Prelude.{ℕ, ◌-◌, ◌*◌, Bool, ◌&&◌, eqb, length, take, drop, replicate}
use mathlib.Core.List.{List, [], ◌∷◌, ◌++◌, flat_map}
use Rattle.pairs.specs.Scans.{all_with, all, any, first_place, upward, left, find, same, less, total}
use Rattle.pairs.specs.Sets.{member, join, add, pair_limit}
use Rattle.pairs.specs.Lent.{filled, set_size, encoded, encoded_sets}
use Rattle.rules.specs.declared.Reply.{Reply}
use Rattle.rules.specs.declared.Counts.{Counts}
use Rattle.rules.specs.Limits.{state_limit, set_numbers, next_numbers}
use Rattle.rules.specs.Layouts.{context_layout, specification_layout}
use Rattle.rules.specs.Bytes.{little, numbers}
use Rattle.rules.specs.Records.{rows_of}
use Rattle.rules.specs.Counts.{context_counts}
use Rattle.rules.specs.Faults.{head_fault, row_fault, rows_fault, fault}
use Rattle.rules.specs.Replies.{unless, ◌or_else◌, fault_reply, record_refusal}
use Rattle.rules.specs.NextTables.{table_of, listing}
use Rattle.rules.specs.Tables.{specification_table, skid_of, spec_next, letters, pairs}
use Rattle.rules.specs.Matching.{skid_refusal, outside_agree, product_fits, outside_refusal, product_refusal}
use Rattle.rules.specs.Discover.{meet, scan, discover}
use Rattle.rules.specs.Continues.{every_input, answers, continues_on, continues}
use Rattle.rules.specs.Skids.{Case, Solving}
use Rattle.answers.specs.Plain.{reached, by_row, by_pair, after, start_set, plain}
use Rattle.answers.specs.Rounds.{round, deletion, lasting}
use Rattle.answers.specs.Unblocked.{sets_of, passes, unblocked, afresh}
use Rattle.answers.specs.Solve.{SolveOutcome, plain_solution, unblocked_solution, solution_of, solution, solve_refusal, solved, solve_for, solve_by, solve}

-- `solve`, with all that it stands on unfolded
unfoldable pub computed : ℕ → List ℕ → List ℕ → List ℕ → List ℕ → SolveOutcome
unfolding all any first_place upward left find less total member join add pair_limit filled set_size encoded encoded_sets flat_map state_limit set_numbers next_numbers context_layout specification_layout little numbers rows_of head_fault row_fault rows_fault fault unless ◌or_else◌ fault_reply record_refusal table_of specification_table skid_of spec_next letters pairs skid_refusal outside_agree product_fits outside_refusal product_refusal meet scan discover every_input answers continues_on continues reached by_row by_pair after start_set plain round deletion lasting passes unblocked afresh sets_of plain_solution unblocked_solution solution_of solution solve_refusal solved solve_for solve_by solve all_with
computed mode context specification sets next = solve mode context specification sets next

unfoldable pub solves : Case → Solving → Bool
unfolding computed all_with listing context_layout little numbers
solves c w =
    let outcome : SolveOutcome = computed w.mode c.context c.specification (replicate 514 7) (replicate 8195 9) in
    let reply : Reply = outcome.reply in
    let counts : Counts = context_counts c.context in
    let size : ℕ = w.states * (counts.u * counts.v) in
    eqb reply.number w.number && eqb reply.«record» 0 && eqb reply.row 0 && eqb reply.states w.states && eqb reply.rounds w.rounds &&
    same outcome.sets (w.sets ++ (replicate (512 - length w.sets) 0 ++ (7 ∷ 7 ∷ []))) &&
    all_with same (listing counts.u counts.v 0 (take size outcome.next)) w.rows &&
    same (drop size outcome.next) (replicate (8192 - size) 0 ++ (9 ∷ 9 ∷ 9 ∷ []))
