-- A controller that was written is read back, at any start place in any buffer, with the same U, V, states and places.
-- Assumes nothing.
use mathlib.Core.Path.{◌≡◌, ap, ◌∙◌}
use mathlib.Core.List.{List}
use Prim.Native.Nat.{ℕ, ◌≤◌}
use lib.ListN.{length, take, drop}
use Rattle.pairs.specs.Lent.{filled}
use Rattle.rules.specs.declared.Reply.{Reply}
use Rattle.rules.specs.Limits.{next_numbers}
use Rattle.rules.specs.Reading.{Reading, read_controller, ControllerRead}
use Rattle.rules.specs.Writing.{places, controller_bytes, ControllerWritten}
use Rattle.rules.specs.RoundTrips.{ReadBack}
use Rattle.rules.proofs.ReadsFine.{read_reading, read_next}
use Rattle.rules.proofs.Written.{write_sound, write_counts, write_table, write_not_refused, written_there}

-- "For every write that replies 0, at any start place in any buffer, reading those bytes replies 0 with the same U, V, states and places"
pub write_then_read : (n_u n_v states : ℕ) (next buffer : List ℕ) (start : ℕ) (reply : Reply) (buffer' : List ℕ)
    → ControllerWritten n_u n_v states next buffer start reply buffer' → reply.number ≡ 0
    → (lent : List ℕ) (r : Reading) (lent' : List ℕ) → next_numbers ≤ length lent
    → ControllerRead (take (length (controller_bytes n_u n_v states next)) (drop start buffer')) lent r lent'
    → ReadBack n_u n_v states (places n_u n_v states next) lent r lent'
write_then_read n_u n_v states next buffer start reply buffer' done e lent r lent' room read =
    let fine_write = write_not_refused n_u n_v states next buffer start reply buffer' done e in
    let there = written_there n_u n_v states next buffer start reply buffer' done fine_write in
    let sound = write_sound n_u n_v states next buffer start fine_write in
    let counts = write_counts n_u n_v states next buffer start fine_write in
    let reading = read.reading_is ∙ ap (λ b. (read_controller b lent).reading) there ∙ read_reading (controller_bytes n_u n_v states next) lent sound room in
    record {
      reply_same = rw (reading, counts);
      u_same = rw (reading, counts);
      v_same = rw (reading, counts);
      states_same = rw (reading, counts);
      places_same = read.next_is ∙ ap (λ b. (read_controller b lent).next) there ∙ read_next (controller_bytes n_u n_v states next) lent sound room
          ∙ ap (λ t. filled next_numbers t lent) (write_table n_u n_v states next buffer start fine_write);
    }
