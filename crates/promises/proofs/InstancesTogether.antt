-- The promises about solving, writing, reading and the check together have premises that can be met: K1's answer is checked and lies inside what solving
-- answers; K5's is written, checked and read back; K1's is read and written again.
-- Assumes nothing.
use Rattle.std.specs.Prelude.{Ok}
use mathlib.Core.Path.{◌≡◌, refl, ap}
use mathlib.Core.Logic.{inl}
use mathlib.Core.List.{List, [], ◌∷◌, flat_map}
use Prim.Native.Nat.{ℕ, ◌+◌, ◌≤◌}
use native.Mathlib.Omega.{arith}
use lib.Dec.{ltb, ltb→lt}
use lib.ListN.{length, take, drop, replicate}
use Rattle.words.specs.Words.{◌⊆◌}
use Rattle.words.specs.System.{Good}
use Rattle.pairs.specs.Scans.{all}
use Rattle.pairs.proofs.Scans.{all_yes}
use Rattle.rules.specs.Layouts.{controller_layout}
use Rattle.rules.specs.Bytes.{bytes_of, written}
use Rattle.rules.specs.Records.{record_of}
use Rattle.rules.specs.Counts.{context_counts}
use Rattle.rules.specs.Replies.{success}
use Rattle.rules.specs.NextTables.{listing}
use Rattle.rules.specs.Reading.{Reading, reading_reply, reading_counts, read_unless, read_record, in_room, read_controller}
use Rattle.rules.specs.Writing.{places, controller_bytes, WriteOutcome, write_controller}
use Rattle.rules.specs.RoundTrips.{ReadBack, WrittenBack, Bytes}
use Rattle.rules.specs.Skids.{controller_record, k1, k5}
use Rattle.answers.specs.Skids.{computed}
use Rattle.verdicts.specs.Verdict.{verdict_reply}
use Rattle.verdicts.specs.Check.{CheckOutcome, check}
use Rattle.verdicts.specs.Checkable.{Checkable, skid_system, ControllerWords}
use Rattle.verdicts.specs.Skids.{checks}
use Rattle.promises.specs.Solvable.{WordsOf}
use Rattle.promises.specs.Checking.{IsVerdict}
use Rattle.promises.specs.Promises.{OfChecking}
use Rattle.promises.proofs.Promises.{kept}
use Rattle.promises.proofs.Instances.{lent_sets, lent_next, outcome, defined, k1_can, k5_can, k1_unblocked_reply, k5_plain_reply, k5_unblocked_reply}

-- K1's answer as a record: v follows u
follows : List ℕ
unfolding controller_record flat_map
follows = controller_record (2 ∷ 2 ∷ 1 ∷ 0 ∷ []) ((0 ∷ 0 ∷ 0 ∷ 0 ∷ 0 ∷ 0 ∷ []) ∷ (0 ∷ 0 ∷ 1 ∷ 1 ∷ 0 ∷ 0 ∷ []) ∷ [])

follows_fits : (check k1.context k1.specification follows lent_sets).reply.number ≡ 0
unfolding checks k1 follows lent_sets
follows_fits = refl

follows_can : Checkable k1.context k1.specification follows lent_sets
unfolding checks k1 follows
follows_can = record {
  context_sound = refl;
  specification_sound = refl;
  controller_sound = refl;
  outside_agrees = refl;
  letters_agree_lem = refl;
  product_fits_lem = refl;
  room = k1_can.sets_room;
}

abbrev follows_checked : CheckOutcome
follows_checked = check k1.context k1.specification follows lent_sets

follows_keeps : OfChecking k1.context k1.specification follows lent_sets follows_checked.reply follows_checked.sets
follows_keeps = kept.checking k1.context k1.specification follows lent_sets follows_checked.reply follows_checked.sets (record { reply_is = refl; sets_are = refl })

-- what its verdict says, and what 0 means
follows_verdict : IsVerdict k1.context k1.specification follows lent_sets follows_checked.reply follows_checked.sets
follows_verdict = follows_keeps.verdict follows_can

follows_good : Good (skid_system k1.context k1.specification) (ControllerWords k1.context k1.specification follows)
follows_good = follows_keeps.good follows_fits

-- it fits, so it lies inside what mode 1 answers
follows_inside : ControllerWords k1.context k1.specification follows ⊆ WordsOf k1.context k1.specification (outcome k1 1).next
follows_inside = (kept.fits_inside 1 k1.context k1.specification lent_sets lent_next (outcome k1 1).reply (outcome k1 1).sets (outcome k1 1).next (defined k1 1) refl
    (inl (ap (λ r. r.number) k1_unblocked_reply)) follows lent_sets follows_checked.reply follows_checked.sets (record { reply_is = refl; sets_are = refl }) follows_fits).1

-- two rounds, three plain states
k5_few_rounds : (outcome k5 1).reply.rounds ≤ (outcome k5 0).reply.states
k5_few_rounds = kept.rounds_few 0 1 k5.context k5.specification lent_sets lent_next (outcome k5 0).reply (outcome k5 1).reply (outcome k5 0).sets (outcome k5 0).next
    (outcome k5 1).sets (outcome k5 1).next (defined k5 0) (defined k5 1) refl (ap (λ r. r.number) k5_plain_reply)

-- K5's answer, written from place 3 of a buffer of zeros
buffer : List ℕ
buffer = replicate 32 0

abbrev n_u : ℕ
n_u = (context_counts k5.context).u

abbrev n_v : ℕ
n_v = (context_counts k5.context).v

abbrev states : ℕ
states = (outcome k5 1).reply.states

abbrev k5_bytes : List ℕ
k5_bytes = controller_bytes n_u n_v states (outcome k5 1).next

abbrev k5_written : WriteOutcome
k5_written = write_controller n_u n_v states (outcome k5 1).next buffer 3

abbrev k5_record : List ℕ
k5_record = take (length k5_bytes) (drop 3 k5_written.buffer)

k5_room : 3 + length k5_bytes ≤ length buffer
unfolding computed k5 lent_sets lent_next buffer controller_layout bytes_of written record_of listing controller_bytes
k5_room = omega arith

-- it is written, and checked it fits
k5_fits : (k5_written.reply ≡ success states 0) × ((check k5.context k5.specification k5_record lent_sets).reply ≡ verdict_reply states (Ok tt))
k5_fits =
    let (done, fits) = kept.solved_fits 1 k5.context k5.specification lent_sets lent_next (outcome k5 1).reply (outcome k5 1).sets (outcome k5 1).next (defined k5 1) refl
    (ap (λ r. r.number) k5_unblocked_reply) buffer 3 k5_written.reply k5_written.buffer (record { reply_is = refl; buffer_is = refl }) k5_room in (
      done,
      fits lent_sets (check k5.context k5.specification k5_record lent_sets).reply (check k5.context k5.specification k5_record lent_sets).sets k5_can.sets_room
          (record { reply_is = refl; sets_are = refl }),
    )

-- and read back it is unchanged
k5_read_back : ReadBack n_u n_v states (places n_u n_v states (outcome k5 1).next) lent_next (read_controller k5_record lent_next).reading (read_controller k5_record lent_next).next
k5_read_back = kept.written_read n_u n_v states (outcome k5 1).next buffer 3 k5_written.reply k5_written.buffer (record { reply_is = refl; buffer_is = refl })
    (ap (λ r. r.number) k5_fits.0) lent_next (read_controller k5_record lent_next).reading (read_controller k5_record lent_next).next k5_can.next_room
    (record { reading_is = refl; next_is = refl })

-- K1's answer, read, and written again from place 3
abbrev follows_read : Reading
follows_read = (read_controller follows lent_next).reading

abbrev follows_written : WriteOutcome
follows_written = write_controller (reading_counts follows_read).u (reading_counts follows_read).v (reading_counts follows_read).states (read_controller follows lent_next).next buffer 3

follows_bytes : Bytes follows
unfolding follows all
follows_bytes x h = ltb→lt x 256 (all_yes (λ x. ltb x 256) follows tt x h)

follows_read_lem : (reading_reply follows_read).number ≡ 0
unfolding follows computed checks lent_next read_unless read_record in_room read_controller
follows_read_lem = refl

follows_written_back : WrittenBack follows buffer 3 (reading_counts follows_read).states follows_written.reply follows_written.buffer
unfolding follows buffer
follows_written_back = kept.read_written follows lent_next follows_read (read_controller follows lent_next).next follows_bytes (record { reading_is = refl; next_is = refl }) follows_read_lem
    buffer 3 follows_written.reply follows_written.buffer (omega arith) (record { reply_is = refl; buffer_is = refl })
