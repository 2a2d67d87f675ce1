-- Document 01, "Reply numbers": replies, and the order of refusals.
-- Assumes nothing.
use Rattle.std.specs.Prelude.{◌≡◌, ℕ, Bool, not, List, Ok, Err, eqb, if◌then◌else◌}
use Rattle.rules.specs.declared.Reply.{Reply}
use Rattle.rules.specs.declared.Refusal.{Refusal}
use Rattle.rules.specs.declared.Refusal.TheVariants.{Record, Codes, Pairs, Room, Mode}
use Rattle.rules.specs.Layouts.{Layout, record_number}
use Rattle.rules.specs.Faults.{fault_number, fault_row, Finding, fault}

-- "Success is 0 and gives the answer's states, or those of the controller checked or the table read or written; rounds are 0 but for the
-- unblocked answer."
abbrev pub success : ℕ → ℕ → Reply
success states rounds = record { number = 0; «record» = 0; row = 0; states = states; rounds = rounds }

-- "Refusals give 0 states and, except 12, 0 rounds.": number, record, row, rounds
abbrev pub refusal : ℕ → ℕ → ℕ → ℕ → Reply
refusal number table row rounds = record { number = number; «record» = table; row = row; states = 0; rounds = rounds }

-- what the functions that make a reply ensure
abbrev pub Succeeded : ℕ → ℕ → Reply → Type 0
Succeeded states rounds reply = reply ≡ success states rounds

abbrev pub RefusedAt : ℕ → ℕ → ℕ → Reply → Type 0
RefusedAt number table row reply = reply ≡ refusal number table row 0

abbrev pub Refused : ℕ → ℕ → Reply → Type 0
Refused number table reply = RefusedAt number table 0 reply

-- no refusal yet; a refusal unless the test passes; the first of two that refuses
abbrev pub fine : Reply
fine = success 0 0

abbrev pub refuses : Reply → Bool
refuses r = not (eqb r.number 0)

unfoldable pub unless : Bool → ℕ → ℕ → Reply
unless test number table = if test then fine else refusal number table 0 0

infixr 20 ◌or_else◌
unfoldable pub ◌or_else◌ : Reply → Reply → Reply
a or_else b = if refuses a then a else b

-- what reading finds, as a reply for record "1 context, 2 specification, 3 controller"
unfoldable pub fault_reply : ℕ → Finding → Reply
fault_reply table (Ok _) = fine
fault_reply table (Err f) = refusal (fault_number f) table (fault_row f) 0

unfoldable pub record_refusal : ℕ → Layout → List ℕ → Reply
record_refusal table l b = fault_reply table (fault l b)

-- each refusal: its number, its record and its row; what `?` makes of it
abbrev pub refusal_reply : Refusal → Reply
refusal_reply (Record kind f) = refusal (fault_number f) (record_number kind) (fault_row f) 0
refusal_reply (Codes kind) = refusal 8 (record_number kind) 0 0
refusal_reply Pairs = refusal 9 0 0 0
refusal_reply Room = refusal 10 0 0 0
refusal_reply Mode = refusal 13 0 0 0
