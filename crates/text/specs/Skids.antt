-- Document 01, "Skids to test on": what `solve` prints, computed; and all that document 01 says of a skid.
-- Assumes nothing.
use Rattle.std.specs.Prelude.{Bool, ◌&&◌}
use mathlib.Core.List.{◌∷◌, ◌++◌, flat_map}
use Rattle.pairs.specs.Scans.{all_with, all, any, first_place, upward, left, find, same, less, total}
use Rattle.pairs.specs.Sets.{member, join, add, pair_limit}
use Rattle.pairs.specs.Lent.{filled, set_size, encoded, encoded_sets}
use Rattle.rules.specs.Limits.{state_limit, set_numbers, next_numbers}
use Rattle.rules.specs.Layouts.{context_layout, specification_layout}
use Rattle.rules.specs.Bytes.{little, numbers}
use Rattle.rules.specs.Records.{rows_of}
use Rattle.rules.specs.Faults.{head_fault, row_fault, rows_fault, fault}
use Rattle.rules.specs.Replies.{unless, ◌or_else◌, fault_reply, record_refusal}
use Rattle.rules.specs.NextTables.{table_of, listing}
use Rattle.rules.specs.Tables.{specification_table, skid_of, spec_next, letters, pairs}
use Rattle.rules.specs.Matching.{skid_refusal, outside_agree, product_fits, outside_refusal, product_refusal}
use Rattle.rules.specs.Discover.{meet, scan, discover}
use Rattle.rules.specs.Continues.{every_input, answers, continues_on, continues}
use Rattle.rules.specs.Skids.{Case, Printing}
use Rattle.verdicts.specs.Skids.{checks}
use Rattle.answers.specs.Plain.{reached, by_row, by_pair, after, start_set, plain}
use Rattle.answers.specs.Rounds.{round, deletion, lasting}
use Rattle.answers.specs.Unblocked.{sets_of, passes, unblocked, afresh}
use Rattle.answers.specs.Solve.{plain_solution, unblocked_solution, solution_of, solution, solve_refusal, solved, solve_for, solve_by, solve}
use Rattle.answers.specs.Skids.{solves}
use Rattle.text.specs.Lines.{decimal, digits, line, states_word, rounds_word, refused_word, record_word, row_word, refused_text, solved_line, solved_text}
use Rattle.text.specs.Inputs.{solve_limit, record_end, first_record, behind}
use Rattle.text.specs.Programs.{solve_printed, solve_text}

-- "With mode byte 1, `solve` prints exactly"
unfoldable pub prints : Case → Printing → Bool
unfolding all any first_place upward left find less total member join add pair_limit filled set_size encoded encoded_sets flat_map state_limit set_numbers next_numbers context_layout specification_layout little numbers rows_of head_fault row_fault rows_fault fault unless ◌or_else◌ fault_reply record_refusal table_of listing specification_table skid_of spec_next letters pairs skid_refusal outside_agree product_fits outside_refusal product_refusal meet scan discover every_input answers continues_on continues reached by_row by_pair after start_set plain round deletion lasting passes unblocked afresh sets_of plain_solution unblocked_solution solution_of solution solve_refusal solved solve_for solve_by solve decimal digits line states_word rounds_word refused_word record_word row_word refused_text solved_line solved_text solve_limit record_end first_record behind solve_printed solve_text all_with
prints c p = same (solve_text (p.mode ∷ (c.context ++ c.specification))) p.text

-- each answer in each mode, each verdict and each printed text that document 01 gives for the skid
unfoldable pub holds : Case → Bool
unfolding all solves checks prints
holds c = all (solves c) c.solving && all (checks c) c.checking && all (prints c) c.printing
