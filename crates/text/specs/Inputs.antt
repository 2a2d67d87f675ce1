-- Document 01, "`solve` reads standard input": how the bytes are cut into records.
-- Assumes nothing.
use Rattle.std.specs.Prelude.{◌≡◌, ℕ, ◌+◌, ◌||◌, List, ltb, length, take, drop, if◌then◌else◌}
use Rattle.rules.specs.Records.{length_in}

-- "More than 28,689 bytes": a mode byte, the longest context and the longest specification
unfoldable pub solve_limit : ℕ
solve_limit = 28689

-- the longest context, specification and controller
unfoldable pub fit_limit : ℕ
fit_limit = 77848

-- "The context record ends where its length says, or takes all bytes if that is too far or absent."
unfoldable pub record_end : List ℕ → ℕ
record_end b = if ltb (length b) 2 || ltb (length b) (length_in b + 2) then length b else length_in b + 2

abbrev pub RecordEnd : List ℕ → ℕ → Type 0
RecordEnd b r = r ≡ record_end b

-- the first record of the bytes, and what stands behind it
unfoldable pub first_record : List ℕ → List ℕ
first_record b = take (record_end b) b

unfoldable pub behind : List ℕ → List ℕ
behind b = drop (record_end b) b

-- no text of `solve` is longer than this many bytes: a first line of at most 36, and at most 8,192 lines of at most 14; and no text of `fit_table`
unfoldable pub solve_text_limit : ℕ
solve_text_limit = 114724

unfoldable pub fit_text_limit : ℕ
fit_text_limit = 70
