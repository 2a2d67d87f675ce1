-- A controller that was read, where 8,192 numbers are lent: its counts are those of a record without fault; else the refusal is the record's.
-- Assumes nothing.
use Rattle.std.specs.Prelude.{Ok, Err}
use mathlib.Core.Path.{◌≡◌, refl, ◌∙◌}
use mathlib.Core.Bool.{true}
use mathlib.Core.List.{List}
use Prim.Native.Nat.{ℕ}
use native.Mathlib.Omega.{arith}
use lib.ListN.{length}
use borrow.Author.Tests.{le-leb}
use Rattle.rules.specs.declared.Counts.{Counts}
use Rattle.rules.specs.declared.Refusal.{Refusal}
use Rattle.rules.specs.declared.Refusal.TheVariants.{Record}
use Rattle.rules.specs.declared.Kind.TheVariants.{Controller}
use Rattle.rules.specs.Limits.{next_numbers}
use Rattle.rules.specs.Layouts.{controller_layout}
use Rattle.rules.specs.Counts.{controller_counts}
use Rattle.rules.specs.Faults.{Finding, fault}
use Rattle.rules.specs.Replies.{fault_reply, record_refusal, refusal_reply}
use Rattle.rules.specs.Reading.{Reading, read_unless, read_record, in_room, read_controller, ControllerRead}

module _ (b : List ℕ) where
  abbrev reading_of : Finding → Reading
  reading_of f = read_unless Controller f (controller_counts b)

  refused_as : (r : Refusal) (f : Finding) → Err r ≡ reading_of f → refusal_reply r ≡ fault_reply 3 f
  unfolding read_unless fault_reply
  refused_as r (Ok u) e = absurd cc
  refused_as r (Err f) e = let same : r ≡ Record Controller f = cc in rw same

  legal_as : (t : Counts) (f : Finding) → Ok t ≡ reading_of f → (f ≡ Ok tt) × (t ≡ controller_counts b)
  unfolding read_unless
  legal_as t (Ok u) e = (refl, cc)
  legal_as t (Err f) e = absurd cc

  room_for : (r : Reading) → in_room true r ≡ r
  unfolding in_room
  room_for (Ok t) = refl
  room_for (Err r) = refl

  module _ (array : List ℕ) (whole : length array ≡ 8192) where
    read_is : (read_controller b array).reading ≡ reading_of (fault controller_layout b)
    unfolding read_controller read_record next_numbers
    read_is = rw (le-leb 8192 (length array) (omega (arith, whole))) (room_for (reading_of (fault controller_layout b)))

    module _ (next : List ℕ) where
      pub controller_refused : (r : Refusal) → ControllerRead b array (Err r) next → refusal_reply r ≡ record_refusal 3 controller_layout b
      unfolding record_refusal
      controller_refused r read = refused_as r (fault controller_layout b) (read.reading_is ∙ read_is)

      module _ (t : Counts) (read : ControllerRead b array (Ok t) next) where
        pub controller_sound : fault controller_layout b ≡ Ok tt
        controller_sound = (legal_as t (fault controller_layout b) (read.reading_is ∙ read_is)).0

        pub controller_counts_lem : t ≡ controller_counts b
        controller_counts_lem = (legal_as t (fault controller_layout b) (read.reading_is ∙ read_is)).1
