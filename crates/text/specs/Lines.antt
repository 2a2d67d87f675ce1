-- Document 01, "Output": the lines that the programs print.
-- Assumes nothing.
use Rattle.std.specs.Prelude.{ℕ, zero, suc, ◌+◌, ◌*◌, ◌/◌, ◌%◌, ltb, take, if◌then◌else◌}
use mathlib.Core.List.{List, [], ◌∷◌, ◌++◌, flat_map}
use Rattle.rules.specs.declared.Reply.{Reply}
use Rattle.rules.specs.Replies.{refuses}
use Rattle.rules.specs.NextTables.{listing}

-- a number in decimal digits, with fuel for more digits than it has
unfoldable pub decimal : ℕ → ℕ → List ℕ
decimal zero n = []
decimal (suc f) n =
    let more : List ℕ = decimal f (n / 10) ++ ((48 + n % 10) ∷ []) in
    let one : List ℕ = (48 + n) ∷ [] in
    if ltb n 10 then one else more

unfoldable pub digits : ℕ → List ℕ
digits n = decimal (suc n) n

-- "Each line ends with byte 0A."
abbrev pub line_end : ℕ
line_end = 0x0A

-- numbers with a blank between, and the line's end
unfoldable pub line : List ℕ → List ℕ
line [] = line_end ∷ []
line (x ∷ []) = digits x ++ (line_end ∷ [])
line (x ∷ y ∷ ys) = digits x ++ (32 ∷ line (y ∷ ys))

-- the words of the output: "states ", " rounds ", "refused ", " record ", " row ", "fits "
unfoldable pub states_word : List ℕ
states_word = 115 ∷ 116 ∷ 97 ∷ 116 ∷ 101 ∷ 115 ∷ 32 ∷ []

unfoldable pub rounds_word : List ℕ
rounds_word = 32 ∷ 114 ∷ 111 ∷ 117 ∷ 110 ∷ 100 ∷ 115 ∷ 32 ∷ []

unfoldable pub refused_word : List ℕ
refused_word = 114 ∷ 101 ∷ 102 ∷ 117 ∷ 115 ∷ 101 ∷ 100 ∷ 32 ∷ []

unfoldable pub record_word : List ℕ
record_word = 32 ∷ 114 ∷ 101 ∷ 99 ∷ 111 ∷ 114 ∷ 100 ∷ 32 ∷ []

unfoldable pub row_word : List ℕ
row_word = 32 ∷ 114 ∷ 111 ∷ 119 ∷ 32 ∷ []

unfoldable pub fits_word : List ℕ
fits_word = 102 ∷ 105 ∷ 116 ∷ 115 ∷ 32 ∷ []

-- "`refused N record K row W rounds R`"
unfoldable pub refused_text : Reply → List ℕ
refused_text r =
    refused_word ++ digits r.number ++ record_word ++ digits r.«record» ++ row_word ++ digits r.row ++ rounds_word ++ line (r.rounds ∷ [])

-- "`states N rounds R`"
unfoldable pub solved_line : ℕ → ℕ → List ℕ
solved_line states rounds = states_word ++ digits states ++ rounds_word ++ line (rounds ∷ [])

-- "then a line `state u v next` for each present step in table order": U and V, the reply, the next table's buffer
unfoldable pub solved_text : ℕ → ℕ → Reply → List ℕ → List ℕ
solved_text n_u n_v r next =
    let table : List ℕ = flat_map line (listing n_u n_v 0 (take (r.states * (n_u * n_v)) next)) in
    let answered : List ℕ = solved_line r.states r.rounds ++ table in
    if refuses r then refused_text r else answered

-- `fits states N`
unfoldable pub checked_text : Reply → List ℕ
checked_text r = let fits : List ℕ = fits_word ++ states_word ++ line (r.states ∷ []) in if refuses r then refused_text r else fits
