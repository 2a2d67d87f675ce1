-- A reading that replies 0 was not refused, and a record without fault is read.
-- Assumes nothing.
use Rattle.std.specs.Prelude.{Ok, Err, if◌then◌else◌}
use mathlib.Core.Path.{◌≡◌, refl, sym, ap, ◌∙◌}
use mathlib.Core.Bool.{Bool, true, false, not, true≢false}
use mathlib.Core.List.{List}
use Prim.Native.Nat.{ℕ, ◌≤◌}
use lib.Dec.{eqb}
use lib.ListN.{length}
use borrow.Author.Tests.{le-leb}
use Rattle.pairs.specs.Lent.{filled}
use Rattle.rules.specs.declared.Reply.{Reply}
use Rattle.rules.specs.declared.Counts.{Counts}
use Rattle.rules.specs.declared.Kind.{Kind}
use Rattle.rules.specs.Limits.{next_numbers}
use Rattle.rules.specs.Layouts.{controller_layout, record_number}
use Rattle.rules.specs.Counts.{controller_counts}
use Rattle.rules.specs.Faults.{Finding, fault}
use Rattle.rules.specs.Replies.{success, refuses, unless, ◌or_else◌, fault_reply, record_refusal}
use Rattle.rules.specs.Tables.{controller_table}
use Rattle.rules.specs.Reading.{reading_reply, read_unless, read_record, in_room, filled_by, controller_refusal, read_controller}
use Rattle.rules.proofs.Replied.{fault_some, replied, controller_replied}

-- what a reply 0 says: no refusal, and no fault
calm : (refused done : Reply) → (if refuses refused then refused else done).number ≡ 0 → refuses refused ≡ false
calm refused done = go (refuses refused) refl
  where
    go : (c : Bool) → refuses refused ≡ c → (if c then refused else done).number ≡ 0 → refuses refused ≡ false
    go true e h = ap (λ n. not (eqb n 0)) h
    go false e h = e

pub record_fine : (kind : Kind) (f : Finding) (counts : Counts) → (reading_reply (read_unless kind f counts)).number ≡ 0 → refuses (fault_reply (record_number kind) f) ≡ false
record_fine kind f counts h = calm (fault_reply (record_number kind) f) (success counts.states 0) (sym (ap (λ r. r.number) (replied kind counts f)) ∙ h)

pub read_fine : (b lent : List ℕ) → (reading_reply (read_controller b lent).reading).number ≡ 0 → refuses (controller_refusal b lent) ≡ false
read_fine b lent h = calm (controller_refusal b lent) (success (controller_counts b).states 0) (sym (ap (λ r. r.number) (controller_replied b lent)) ∙ h)

pub no_fault : (table : ℕ) (f : Finding) → refuses (fault_reply table f) ≡ false → f ≡ Ok tt
unfolding fault_reply
no_fault table (Ok tt) h = refl
no_fault table (Err f) h = absurd (true≢false (sym (ap not (fault_some f)) ∙ h))

-- a record without fault is read, where 8,192 numbers are lent
module _ (b lent : List ℕ) (sound : fault controller_layout b ≡ Ok tt) (room : next_numbers ≤ length lent) where
  pub read_not_refused : refuses (controller_refusal b lent) ≡ false
  unfolding controller_refusal record_refusal fault_reply ◌or_else◌ unless
  read_not_refused = rw (sound, le-leb next_numbers (length lent) room)

  pub read_reading : (read_controller b lent).reading ≡ Ok (controller_counts b)
  unfolding read_controller read_record read_unless in_room
  read_reading = rw (sound, le-leb next_numbers (length lent) room)

  pub read_next : (read_controller b lent).next ≡ filled next_numbers (controller_table b) lent
  unfolding read_controller read_record read_unless in_room filled_by
  read_next = rw (sound, le-leb next_numbers (length lent) room)
