-- Reading and writing on small records written by hand from document 01: replies, counts, and lent buffers, computed.
-- Assumes nothing.
use mathlib.Core.Path.{◌≡◌, refl}
use Prim.Native.Nat.{ℕ}
use mathlib.Core.List.{List, [], ◌∷◌, ◌++◌, flat_map}
use lib.ListN.{replicate}
use Rattle.pairs.specs.Scans.{all_with, first_place, less, total}
use Rattle.pairs.specs.Lent.{filled}
use Rattle.rules.specs.declared.Reply.{Reply}
use Rattle.rules.specs.declared.Counts.{Counts}
use Rattle.rules.specs.Counts.{no_counts}
use Rattle.rules.specs.Limits.{state_limit, next_numbers}
use Rattle.rules.specs.Layouts.{context_layout, specification_layout, controller_layout}
use Rattle.rules.specs.Bytes.{little, bytes_of, numbers, written}
use Rattle.rules.specs.Records.{rows_of, record_of}
use Rattle.rules.specs.Faults.{head_fault, row_fault, rows_fault, fault}
use Rattle.rules.specs.Replies.{success, refusal, unless, ◌or_else◌}
use Rattle.rules.specs.NextTables.{table_of, listing}
use Rattle.rules.specs.Tables.{controller_table}
use Rattle.rules.specs.Reading.{Reading, reading_reply, reading_counts, read_unless, read_record, in_room, filled_by, read_controller}
use Rattle.rules.specs.declared.Kind.TheVariants.{Context, Specification}
use Rattle.rules.specs.Writing.{bad_place, controller_bytes, place_refusal, write_refusal, write_controller}

-- U=2, V=2, two states: state 0 goes to 1 by (0, 1) and stays by (1, 0); state 1 goes to 0 by (1, 1)
bytes : List ℕ
bytes = 0x18 ∷ 0 ∷ 0x43 ∷ 0x54 ∷ 2 ∷ 2 ∷ 2 ∷ 0
    ∷ 0 ∷ 0 ∷ 0 ∷ 1 ∷ 1 ∷ 0
    ∷ 0 ∷ 0 ∷ 1 ∷ 0 ∷ 0 ∷ 0
    ∷ 1 ∷ 0 ∷ 1 ∷ 1 ∷ 0 ∷ 0 ∷ []

next : List ℕ
next = 65535 ∷ 1 ∷ 0 ∷ 65535 ∷ 65535 ∷ 65535 ∷ 65535 ∷ 0 ∷ []

-- the reply of a reading and its counts
record Replied : Type 0 where
  reply : Reply
  counts : Counts

abbrev replied : Reading → Replied
replied r = record { reply = reading_reply r; counts = reading_counts r }

-- a context and a specification; a specification with a broken last row; a context whose second key is below the first
reads : (replied (read_record Context (0x0D ∷ 0 ∷ 0x43 ∷ 0x58 ∷ 1 ∷ 2 ∷ 3 ∷ 4 ∷ 5 ∷ 0 ∷ 0 ∷ 0 ∷ 0 ∷ 0 ∷ 0 ∷ []))
    ∷ replied (read_record Specification (0x05 ∷ 0 ∷ 0x53 ∷ 0x50 ∷ 1 ∷ 2 ∷ 3 ∷ []))
    ∷ replied (read_record Specification (0x06 ∷ 0 ∷ 0x53 ∷ 0x50 ∷ 1 ∷ 2 ∷ 3 ∷ 0 ∷ []))
    ∷ replied (read_record Context (0x13 ∷ 0 ∷ 0x43 ∷ 0x58 ∷ 1 ∷ 2 ∷ 1 ∷ 1 ∷ 1 ∷ 0 ∷ 0 ∷ 0 ∷ 0 ∷ 1 ∷ 0 ∷ 0 ∷ 0 ∷ 0 ∷ 0 ∷ 0 ∷ 0 ∷ []))
    ∷ []) ≡
    record { reply = success 5 0; counts = record { i = 1; o = 2; u = 3; v = 4; states = 5; rows = 1 } }
    ∷ record { reply = success 3 0; counts = record { i = 1; o = 2; u = 0; v = 0; states = 3; rows = 0 } }
    ∷ record { reply = refusal 3 2 0 0; counts = no_counts }
    ∷ record { reply = refusal 7 1 1 0; counts = no_counts }
    ∷ []
unfolding less total state_limit context_layout specification_layout little numbers rows_of head_fault row_fault rows_fault fault read_unless read_record all_with
reads = refl

-- a controller: its counts, the table, zeros up to 8,192, and what was beyond; nothing where the buffer is too short or the record is refused
controller : (replied (read_controller bytes (replicate 8194 7)).reading ∷ replied (read_controller bytes (replicate 8191 7)).reading ∷ replied (read_controller (0 ∷ bytes) (replicate 8191 7)).reading ∷ []) ≡
    record { reply = success 2 0; counts = record { i = 0; o = 0; u = 2; v = 2; states = 2; rows = 3 } }
    ∷ record { reply = refusal 10 0 0 0; counts = no_counts }
    ∷ record { reply = refusal 1 3 0 0; counts = no_counts }
    ∷ []
unfolding bytes less total state_limit next_numbers controller_layout little numbers rows_of head_fault row_fault rows_fault fault read_unless read_record in_room filled_by table_of controller_table read_controller filled all_with
controller = refl

tables : ((read_controller bytes (replicate 8194 7)).next ∷ (read_controller bytes (7 ∷ 7 ∷ [])).next ∷ (read_controller (0 ∷ bytes) (7 ∷ 7 ∷ [])).next ∷ []) ≡
    (next ++ (replicate 8184 0 ++ (7 ∷ 7 ∷ []))) ∷ (7 ∷ 7 ∷ []) ∷ (7 ∷ 7 ∷ []) ∷ []
unfolding bytes next less total filled state_limit next_numbers controller_layout little numbers rows_of head_fault row_fault rows_fault fault read_unless read_record in_room filled_by table_of controller_table read_controller all_with
tables = refl

-- what writing replies: the record fits exactly from place 1 of 27 bytes; a count outside its limit; the table lacks a place; one byte too few; a
-- start past the end; 10 before 5; the first bad place as row
replies : ((write_controller 2 2 2 next (replicate 27 7) 1).reply
    ∷ (write_controller 0 2 2 next (replicate 27 7) 1).reply
    ∷ (write_controller 2 5 2 next (replicate 27 7) 1).reply
    ∷ (write_controller 2 2 513 next (replicate 27 7) 1).reply
    ∷ (write_controller 2 2 3 next (replicate 99 7) 1).reply
    ∷ (write_controller 2 2 2 next (replicate 26 7) 1).reply
    ∷ (write_controller 2 2 2 next (replicate 27 7) 28).reply
    ∷ (write_controller 2 2 1 next (replicate 19 7) 0).reply
    ∷ (write_controller 2 2 1 next (replicate 20 7) 0).reply
    ∷ []) ≡
    success 2 0
    ∷ refusal 4 3 0 0
    ∷ refusal 4 3 0 0
    ∷ refusal 4 3 0 0
    ∷ refusal 10 0 0 0
    ∷ refusal 10 0 0 0
    ∷ refusal 10 0 0 0
    ∷ refusal 10 0 0 0
    ∷ refusal 5 3 1 0
    ∷ []
unfolding next total state_limit controller_layout bytes_of written record_of flat_map unless ◌or_else◌ listing first_place bad_place controller_bytes place_refusal write_refusal write_controller all_with
replies = refl

-- and what it leaves: the record's bytes from the start place on, all other bytes; a refused write changes nothing
writes : ((write_controller 2 2 2 next (replicate 28 7) 1).buffer ∷ (write_controller 2 2 1 next (replicate 20 7) 0).buffer ∷ []) ≡
    (7 ∷ (bytes ++ (7 ∷ []))) ∷ replicate 20 7 ∷ []
unfolding bytes next total state_limit controller_layout bytes_of written record_of flat_map unless ◌or_else◌ listing first_place bad_place controller_bytes place_refusal write_refusal write_controller all_with
writes = refl

-- U=2, V=3, one state, which stays by (1, 2): read, and written
unequal : ((read_controller (0x0C ∷ 0 ∷ 0x43 ∷ 0x54 ∷ 2 ∷ 3 ∷ 1 ∷ 0 ∷ 0 ∷ 0 ∷ 1 ∷ 2 ∷ 0 ∷ 0 ∷ []) (replicate 8192 7)).next
    ∷ (write_controller 2 3 1 (65535 ∷ 65535 ∷ 65535 ∷ 65535 ∷ 65535 ∷ 0 ∷ []) (replicate 14 7) 0).buffer
    ∷ []) ≡
    (65535 ∷ 65535 ∷ 65535 ∷ 65535 ∷ 65535 ∷ 0 ∷ replicate 8186 0)
    ∷ (0x0C ∷ 0 ∷ 0x43 ∷ 0x54 ∷ 2 ∷ 3 ∷ 1 ∷ 0 ∷ 0 ∷ 0 ∷ 1 ∷ 2 ∷ 0 ∷ 0 ∷ [])
    ∷ []
unfolding less total filled state_limit next_numbers controller_layout little numbers rows_of bytes_of written record_of flat_map head_fault row_fault rows_fault fault unless ◌or_else◌ read_unless read_record in_room filled_by table_of controller_table read_controller listing first_place bad_place controller_bytes place_refusal write_refusal write_controller all_with
unequal = refl
