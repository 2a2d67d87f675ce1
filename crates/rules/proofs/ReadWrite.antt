-- A controller record read with reply 0 is written again from what was read: into every buffer long enough, from any start place on, as the same
-- bytes.
-- Assumes nothing.
use mathlib.Core.Path.{◌≡◌, refl, sym, ap, ◌∙◌}
use mathlib.Core.Bool.{true, false}
use mathlib.Core.List.{List, [], ◌∷◌, ◌++◌, append_assoc}
use Prim.Native.Nat.{ℕ, ◌+◌, ◌-◌, ◌*◌, ◌≤◌}
use native.Mathlib.Omega.{arith}
use lib.ListN.{length, get_or, take, drop, replicate, length-append}
use lib.Seq.{take_at}
use Rattle.pairs.specs.Lent.{filled}
use Rattle.rules.specs.declared.Reply.{Reply}
use Rattle.std.specs.Prelude.{Ok}
use Rattle.rules.specs.Limits.{absent, state_limit, next_numbers}
use Rattle.rules.specs.Layouts.{controller_layout}
use Rattle.rules.specs.Bytes.{numbers}
use Rattle.rules.specs.Records.{counts_in, rows_in}
use Rattle.rules.specs.Counts.{controller_counts}
use Rattle.rules.specs.Faults.{in_limits, fault}
use Rattle.rules.specs.Replies.{success, refuses, record_refusal}
use Rattle.rules.specs.NextTables.{listing}
use Rattle.rules.specs.Tables.{controller_table}
use Rattle.rules.specs.Reading.{Reading, reading_reply, reading_counts, controller_refusal, ControllerRead}
use Rattle.rules.specs.Writing.{places, controller_bytes, write_controller, ControllerWritten}
use Rattle.rules.specs.RoundTrips.{WrittenBack, Bytes}
use Rattle.rules.proofs.Sound.{row_length, count_within, keys_rise, sound_head}
use Rattle.rules.proofs.NotRefused.{or_else_fine}
use Rattle.rules.proofs.Replied.{controller_counted, controller_next}
use Rattle.rules.proofs.ReadsFine.{read_fine, no_fault}
use Rattle.rules.proofs.NextTables.{table_length}
use Rattle.rules.proofs.Legal.{read_controller_lem}
use Rattle.rules.proofs.Read.{step_rows}
use Rattle.rules.proofs.WrittenAgain.{written_again}
use Rattle.rules.proofs.TableListing.{listing_table}
use Rattle.rules.proofs.Writes.{no_bad, writes}

-- a controller record without fault
module _ (b : List ℕ) (e : fault controller_layout b ≡ Ok tt) (each : Bytes b) where
  abbrev m : ℕ
  m = get_or (counts_in controller_layout b) 0 0

  abbrev n : ℕ
  n = get_or (counts_in controller_layout b) 1 0

  abbrev states : ℕ
  states = get_or (counts_in controller_layout b) 2 0

  few : states ≤ absent
  unfolding controller_layout state_limit
  few = let high = (count_within controller_layout b e 2 (omega arith)).1 in omega arith

  counts_are : m ∷ n ∷ states ∷ [] ≡ counts_in controller_layout b
  unfolding controller_layout numbers
  counts_are = refl

  rows_are : listing m n 0 (controller_table b) ≡ rows_in controller_layout b
  unfolding controller_table controller_layout
  rows_are = listing_table m n states (rows_in controller_layout b) (step_rows controller_layout refl refl refl b e few) (row_length controller_layout b e) (keys_rise controller_layout b e)

  table_size : length (controller_table b) ≡ states * (m * n)
  unfolding controller_table
  table_size = table_length m n states (rows_in controller_layout b)

  within : in_limits (m ∷ n ∷ states ∷ []) controller_layout.limits ≡ true
  within = rw counts_are (sound_head controller_layout b e).within

  module _ (rest : List ℕ) where
    places_are : places m n states (controller_table b ++ rest) ≡ controller_table b
    places_are = take_at (controller_table b) rest (states * (m * n)) table_size

    bytes_are : controller_bytes m n states (controller_table b ++ rest) ≡ b
    unfolding controller_bytes
    bytes_are = rw (places_are, rows_are, counts_are) (written_again controller_layout b e each)

    writes_back : (buffer : List ℕ) (start : ℕ) → start + length b ≤ length buffer
        → write_controller m n states (controller_table b ++ rest) buffer start ≡ record { reply = success states 0; buffer = take start buffer ++ b ++ drop (start + length b) buffer }
    writes_back buffer start room = rw bytes_are at (writes m n states (controller_table b ++ rest) buffer start within
        (rw (length-append, table_size) (omega arith))
        (rw bytes_are room)
        (rw places_are (no_bad states (controller_table b) (read_controller_lem b e))))

-- what was read with 0
record ReadFine (b lent : List ℕ) (r : Reading) (lent' : List ℕ) : Type 0 where
  faultless : fault controller_layout b ≡ Ok tt
  own_counts : reading_counts r ≡ controller_counts b
  rest : List ℕ
  own_table : lent' ≡ controller_table b ++ rest

fine_read : (b lent : List ℕ) (r : Reading) (lent' : List ℕ) → ControllerRead b lent r lent' → (reading_reply r).number ≡ 0 → ReadFine b lent r lent'
unfolding controller_refusal record_refusal filled
fine_read b lent r lent' was h =
    let calm : refuses (controller_refusal b lent) ≡ false = read_fine b lent (ap (λ r. (reading_reply r).number) (sym was.reading_is) ∙ h) in
    record {
      faultless = no_fault 3 (fault controller_layout b) (or_else_fine (record_refusal 3 controller_layout b) _ calm).0;
      own_counts = ap reading_counts was.reading_is ∙ controller_counted b lent ∙ rw calm;
      rest = replicate (next_numbers - length (controller_table b)) 0 ++ drop next_numbers lent;
      own_table = was.next_is ∙ controller_next b lent ∙ rw calm (append_assoc (controller_table b) _ _);
    }

pub read_then_write : (b lent : List ℕ) (r : Reading) (lent' : List ℕ) → Bytes b → ControllerRead b lent r lent' → (reading_reply r).number ≡ 0
    → (buffer : List ℕ) (start : ℕ) (reply : Reply) (buffer' : List ℕ) → start + length b ≤ length buffer
    → ControllerWritten (reading_counts r).u (reading_counts r).v (reading_counts r).states lent' buffer start reply buffer'
    → WrittenBack b buffer start (reading_counts r).states reply buffer'
read_then_write b lent r lent' each was h buffer start reply buffer' room put =
    let known = fine_read b lent r lent' was h in
    let gives : write_controller (reading_counts r).u (reading_counts r).v (reading_counts r).states lent' buffer start
    ≡ record { reply = success (reading_counts r).states 0; buffer = take start buffer ++ b ++ drop (start + length b) buffer } =
    rw (known.own_counts, known.own_table) (writes_back b known.faultless each known.rest buffer start room) in
    record { reply_is = put.reply_is ∙ ap (λ o. o.reply) gives; buffer_is = put.buffer_is ∙ ap (λ o. o.buffer) gives }
