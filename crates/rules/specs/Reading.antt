-- Document 01, "Reading: the record, then 10 for a controller": the counts or the refusal, and the lent buffer for every input.
-- Assumes nothing.
use Rattle.std.specs.Prelude.{◌≡◌, ℕ, Bool, List, Result, Ok, Err, leb, length, if◌then◌else◌}
use Rattle.pairs.specs.Lent.{filled}
use Rattle.rules.specs.declared.Reply.{Reply}
use Rattle.rules.specs.declared.Counts.{Counts}
use Rattle.rules.specs.declared.Refusal.{Refusal}
use Rattle.rules.specs.declared.Refusal.TheVariants.{Record, Room}
use Rattle.rules.specs.declared.Kind.{Kind}
use Rattle.rules.specs.declared.Kind.TheVariants.{Context, Specification, Controller}
use Rattle.rules.specs.Limits.{next_numbers}
use Rattle.rules.specs.Layouts.{controller_layout, layout_of}
use Rattle.rules.specs.Counts.{counts_of, no_counts}
use Rattle.rules.specs.Faults.{Finding, fault}
use Rattle.rules.specs.Replies.{success, unless, ◌or_else◌, record_refusal, refusal_reply}
use Rattle.rules.specs.Tables.{controller_table}

-- what a reader gives: the counts of the record, or its refusal
abbrev pub Reading : Type 0
Reading = Result Counts Refusal

-- its reply, a success that gives the states of "the table read"; and its counts, "on refusal .. 0"
abbrev pub reading_reply : Reading → Reply
reading_reply (Ok counts) = success counts.states 0
reading_reply (Err refused) = refusal_reply refused

abbrev pub reading_counts : Reading → Counts
reading_counts (Ok counts) = counts
reading_counts (Err refused) = no_counts

-- refused by what was found, or read
unfoldable pub read_unless : Kind → Finding → Counts → Reading
read_unless kind (Ok _) counts = Ok counts
read_unless kind (Err f) counts = Err (Record kind f)

-- "Reading: the record"
unfoldable pub read_record : Kind → List ℕ → Reading
read_record kind b = read_unless kind (fault (layout_of kind) b) (counts_of kind b)

-- "then 10 for a controller"
unfoldable pub controller_refusal : List ℕ → List ℕ → Reply
controller_refusal b next = record_refusal 3 controller_layout b or_else unless (leb next_numbers (length next)) 10 0

-- the same, of what was read: refused as before, or by 10 where the room is too small
unfoldable pub in_room : Bool → Reading → Reading
in_room room (Ok counts) = if room then Ok counts else Err Room
in_room room (Err refused) = Err refused

-- "Reading a controller fills 8,192 numbers of 16 bits as above and returns U and V; on refusal nothing, and 0 for both."
pub record ReadOutcome : Type 0 where
  pub reading : Reading
  pub next : List ℕ

-- what is lent, once something was read: filled, or as it was
unfoldable pub filled_by : Reading → List ℕ → List ℕ → List ℕ
filled_by (Ok counts) table next = filled next_numbers table next
filled_by (Err refused) table next = next

unfoldable pub read_controller : List ℕ → List ℕ → ReadOutcome
read_controller b next =
    let read : Reading = in_room (leb next_numbers (length next)) (read_record Controller b) in
    record { reading = read; next = filled_by read (controller_table b) next }

-- what the functions ensure, for every slice of bytes: the counts or the refusal and the buffer at the end are those of the definition
abbrev pub RecordRead : Kind → List ℕ → Reading → Type 0
RecordRead kind b r = r ≡ read_record kind b

abbrev pub ContextRead : List ℕ → Reading → Type 0
ContextRead = RecordRead Context

abbrev pub SpecificationRead : List ℕ → Reading → Type 0
SpecificationRead = RecordRead Specification

pub record ControllerRead (b next : List ℕ) (r : Reading) (next' : List ℕ) : Type 0 where
  pub reading_is : r ≡ (read_controller b next).reading
  pub next_is : next' ≡ (read_controller b next).next
