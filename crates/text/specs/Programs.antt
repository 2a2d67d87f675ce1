-- Document 01, the program `solve`: standard input to printed bytes; and `fit_table` in the same style.
-- Assumes nothing.
use Rattle.std.specs.Prelude.{◌≡◌, ℕ, List, leb, ltb, eqb, length, get_or, drop, replicate, if◌then◌else◌}
use Rattle.pairs.specs.Lent.{leading}
use Rattle.rules.specs.Limits.{set_numbers, next_numbers}
use Rattle.rules.specs.declared.Counts.{Counts}
use Rattle.rules.specs.Counts.{context_counts}
use Rattle.rules.specs.Replies.{refusal}
use Rattle.verdicts.specs.Check.{check}
use Rattle.answers.specs.Solve.{SolveOutcome, solve}
use Rattle.text.specs.Lines.{refused_text, solved_text, checked_text}
use Rattle.text.specs.Inputs.{solve_limit, fit_limit, solve_text_limit, fit_text_limit, first_record, behind}

abbrev pub zeros : ℕ → List ℕ
zeros n = replicate n 0

-- "one mode byte, context record, specification record"
unfoldable pub solve_printed : ℕ → List ℕ → List ℕ → List ℕ
solve_printed mode context specification =
    let counts : Counts = context_counts context in
    let outcome : SolveOutcome = solve mode context specification (zeros set_numbers) (zeros next_numbers) in
    solved_text counts.u counts.v outcome.reply outcome.next

-- "More than 28,689 bytes: refusal 1, record 0. Otherwise no byte at all: 13."
unfoldable pub solve_text : List ℕ → List ℕ
solve_text input =
    let rest : List ℕ = drop 1 input in
    let answered : List ℕ = solve_printed (get_or input 0 0) (first_record rest) (behind rest) in
    if ltb solve_limit (length input) then refused_text (refusal 1 0 0 0) else
    if eqb (length input) 0 then refused_text (refusal 13 0 0 0) else
    answered

-- context record, specification record, controller record
unfoldable pub fit_printed : List ℕ → List ℕ → List ℕ → List ℕ
fit_printed context specification controller = checked_text (check context specification controller (zeros set_numbers)).reply

-- `fit_table`: context record, specification record, controller record. More than 77,848 bytes: refusal 1, record 0
unfoldable pub fit_text : List ℕ → List ℕ
fit_text input =
    let rest : List ℕ = behind input in
    let answered : List ℕ = fit_printed (first_record input) (first_record rest) (behind rest) in
    if ltb fit_limit (length input) then refused_text (refusal 1 0 0 0) else
    answered

-- what the functions ensure that put a text at the front of a lent buffer, for every input and every buffer: how many bytes the text has, and the buffer at the
-- end. A buffer too short for the longest text stays, and the number is 0
pub record TextPut (limit : ℕ) (text buffer : List ℕ) (size : ℕ) (buffer' : List ℕ) : Type 0 where
  pub size_is : size ≡ (if leb limit (length buffer) then length text else 0)
  pub buffer_is : buffer' ≡ (if leb limit (length buffer) then leading text buffer else buffer)

abbrev pub SolveTextPut : List ℕ → List ℕ → ℕ → List ℕ → Type 0
SolveTextPut input = TextPut solve_text_limit (solve_text input)

abbrev pub FitTextPut : List ℕ → List ℕ → ℕ → List ℕ → Type 0
FitTextPut input = TextPut fit_text_limit (fit_text input)
