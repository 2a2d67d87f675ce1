-- What a reader gives, as a reply: where the definitions of 01's order refuse, that refusal; else a success with the states. And its counts.
-- Assumes nothing.
use Rattle.std.specs.Prelude.{Ok, Err, if◌then◌else◌}
use mathlib.Core.Path.{◌≡◌, refl}
use mathlib.Core.Bool.{Bool, true, false}
use mathlib.Core.List.{List}
use Prim.Native.Nat.{ℕ}
use lib.Dec.{leb, eqb}
use lib.ListN.{length}
use Rattle.pairs.specs.Lent.{filled}
use Rattle.rules.specs.declared.Reply.{Reply}
use Rattle.rules.specs.declared.Counts.{Counts}
use Rattle.rules.specs.declared.Kind.{Kind}
use Rattle.rules.specs.declared.Kind.TheVariants.{Controller}
use Rattle.rules.specs.declared.Fault.{Fault}
use Rattle.rules.specs.declared.Fault.TheVariants as found
use Rattle.rules.specs.declared.Fault.TheVariants.{Length, Cut, Limit, Code, EqualKey, LowerKey}
use Rattle.rules.specs.Limits.{next_numbers}
use Rattle.rules.specs.Layouts.{controller_layout, layout_of, record_number}
use Rattle.rules.specs.Counts.{controller_counts, counts_of, no_counts}
use Rattle.rules.specs.Faults.{fault_number, Finding, fault}
use Rattle.rules.specs.Replies.{success, refuses, unless, ◌or_else◌, fault_reply, record_refusal}
use Rattle.rules.specs.Tables.{controller_table}
use Rattle.rules.specs.Reading.{Reading, reading_reply, reading_counts, read_unless, read_record, in_room, filled_by, controller_refusal, read_controller}

-- a fault has a number
pub fault_some : (f : Fault) → eqb (fault_number f) 0 ≡ false
fault_some Length = refl
fault_some found.Kind = refl
fault_some Cut = refl
fault_some Limit = refl
fault_some (Code row) = refl
fault_some (EqualKey row) = refl
fault_some (LowerKey row) = refl

-- what was found
module _ (kind : Kind) (counts : Counts) where
  pub replied : (f : Finding) → reading_reply (read_unless kind f counts) ≡ (if refuses (fault_reply (record_number kind) f) then fault_reply (record_number kind) f else success counts.states 0)
  unfolding read_unless fault_reply
  replied (Ok _) = refl
  replied (Err f) = rw (fault_some f)

  counted : (f : Finding) → reading_counts (read_unless kind f counts) ≡ (if refuses (fault_reply (record_number kind) f) then no_counts else counts)
  unfolding read_unless fault_reply
  counted (Ok _) = refl
  counted (Err f) = rw (fault_some f)

-- a record of any kind
module _ (kind : Kind) (b : List ℕ) where
  pub record_replied : reading_reply (read_record kind b)
      ≡ (if refuses (record_refusal (record_number kind) (layout_of kind) b) then record_refusal (record_number kind) (layout_of kind) b else success (counts_of kind b).states 0)
  unfolding read_record record_refusal
  record_replied = replied kind (counts_of kind b) (fault (layout_of kind) b)

  pub record_counted : reading_counts (read_record kind b) ≡ (if refuses (record_refusal (record_number kind) (layout_of kind) b) then no_counts else counts_of kind b)
  unfolding read_record record_refusal
  record_counted = counted kind (counts_of kind b) (fault (layout_of kind) b)

-- a controller, where so many numbers are lent
module _ (counts : Counts) where
  abbrev read : Finding → Bool → Reading
  read f room = in_room room (read_unless Controller f counts)

  abbrev refused : Finding → Bool → Reply
  refused f room = fault_reply 3 f or_else unless room 10 0

  replied_in : (f : Finding) (room : Bool) → reading_reply (read f room) ≡ (if refuses (refused f room) then refused f room else success counts.states 0)
  unfolding read_unless in_room fault_reply unless ◌or_else◌
  replied_in (Ok _) true = refl
  replied_in (Ok _) false = refl
  replied_in (Err f) room = rw (fault_some f, fault_some f)

  counted_in : (f : Finding) (room : Bool) → reading_counts (read f room) ≡ (if refuses (refused f room) then no_counts else counts)
  unfolding read_unless in_room fault_reply unless ◌or_else◌
  counted_in (Ok _) true = refl
  counted_in (Ok _) false = refl
  counted_in (Err f) room = rw (fault_some f, fault_some f)

  filled_in : (table next : List ℕ) (f : Finding) (room : Bool) → filled_by (read f room) table next ≡ (if refuses (refused f room) then next else filled next_numbers table next)
  unfolding read_unless in_room fault_reply unless ◌or_else◌ filled_by
  filled_in table next (Ok _) true = refl
  filled_in table next (Ok _) false = refl
  filled_in table next (Err f) room = rw (fault_some f, fault_some f)

module _ (b next : List ℕ) where
  pub controller_replied : reading_reply (read_controller b next).reading
      ≡ (if refuses (controller_refusal b next) then controller_refusal b next else success (controller_counts b).states 0)
  unfolding read_controller read_record controller_refusal record_refusal
  controller_replied = replied_in (controller_counts b) (fault controller_layout b) (leb next_numbers (length next))

  pub controller_counted : reading_counts (read_controller b next).reading ≡ (if refuses (controller_refusal b next) then no_counts else controller_counts b)
  unfolding read_controller read_record controller_refusal record_refusal
  controller_counted = counted_in (controller_counts b) (fault controller_layout b) (leb next_numbers (length next))

  pub controller_next : (read_controller b next).next ≡ (if refuses (controller_refusal b next) then next else filled next_numbers (controller_table b) next)
  unfolding read_controller read_record controller_refusal record_refusal
  controller_next = filled_in (controller_counts b) (controller_table b) next (fault controller_layout b) (leb next_numbers (length next))
