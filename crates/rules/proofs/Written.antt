-- A write that is not refused: its bytes stand at the start place, and are a controller record without fault, with the counts and the places given.
-- Assumes nothing.
use Rattle.std.specs.Prelude.{if◌then◌else◌, Ok}
use mathlib.Core.Path.{◌≡◌, refl, sym, ap, subst, ◌∙◌}
use mathlib.Core.Logic.{inl, inr, ⊎_elim}
use mathlib.Core.Bool.{Bool, true, false, not, ◌||◌, true≢false}
use mathlib.Core.List.{List, [], ◌∷◌, ◌++◌, append_assoc}
use Prim.Native.Nat.{ℕ, ◌+◌, ◌*◌, ◌≤◌, ◌<◌}
use native.Mathlib.Nat.{mul-le-mul}
use native.Mathlib.Omega.{arith}
use lib.Dec.{T, leb, ltb, eqb, leb→le, ltb→lt, eqb→eq}
use lib.ListN.{length, get_or, take, drop}
use lib.Seq.{length-take-le, take_at, drop_at}
use borrow.Author.Tests.{ltb-false, eq-eqb, not-false}
use mir.Facts.{and_yes, or_yes}
use Rattle.pairs.specs.Scans.{first_place, total}
use Rattle.pairs.proofs.Lists.{place_none}
use Rattle.rules.specs.declared.Reply.{Reply}
use Rattle.rules.specs.Limits.{absent, state_limit}
use Rattle.rules.specs.Layouts.{controller_layout}
use Rattle.rules.specs.Records.{counts_in}
use Rattle.rules.specs.Faults.{in_limits, fault}
use Rattle.rules.specs.Replies.{refusal, fine, refuses}
use Rattle.rules.specs.NextTables.{listing}
use Rattle.rules.specs.Tables.{controller_table}
use Rattle.rules.specs.Writing.{bad_place, WriteOutcome, places, controller_bytes, place_refusal, write_refusal, write_controller, ControllerWritten}
use Rattle.rules.proofs.Sound.{limit_within}
use Rattle.rules.proofs.WrittenRecord.{Writable, record_counts, record_rows, record_sound}
use Rattle.rules.proofs.Listing.{StatesIn, listing_few, listing_fits, listing_sound, table_of_listing}
use Rattle.rules.proofs.NotRefused.{or_else_fine, unless_fine}

-- a write whose tests pass
record Passed (n_u n_v states : ℕ) (next buffer : List ℕ) (start : ℕ) : Type 0 where
  in_limits_lem : in_limits (n_u ∷ n_v ∷ states ∷ []) controller_layout.limits ≡ true
  places_there : states * (n_u * n_v) ≤ length next
  room : start + length (controller_bytes n_u n_v states next) ≤ length buffer
  states_only : StatesIn states (places n_u n_v states next)

states_fine : (n_u n_v states : ℕ) (next : List ℕ) → refuses (place_refusal n_u n_v states next) ≡ false → StatesIn states (places n_u n_v states next)
unfolding place_refusal bad_place
states_fine n_u n_v states next e t m =
    ⊎_elim (λ y. inl (eqb→eq t absent y)) (λ y. inr (ltb→lt t states y)) (or_yes (eqb t absent) (ltb t states) (subst T (sym (not-false (eqb t absent || ltb t states) passes)) tt))
  where
    bad : ℕ
    bad = first_place (λ j. not (eqb j absent || ltb j states)) (places n_u n_v states next)

    go : (b : Bool) → refuses (if b then refusal 5 3 bad 0 else fine) ≡ false → b ≡ false
    go true e = absurd (true≢false e)
    go false e = refl

    passes : not (eqb t absent || ltb t states) ≡ false
    passes = place_none (λ j. not (eqb j absent || ltb j states)) (places n_u n_v states next) (ltb-false bad (length (places n_u n_v states next)) (go (ltb bad (length (places n_u n_v states next))) e)) t m

passed : (n_u n_v states : ℕ) (next buffer : List ℕ) (start : ℕ) → refuses (write_refusal n_u n_v states next buffer start) ≡ false → Passed n_u n_v states next buffer start
unfolding write_refusal
passed n_u n_v states next buffer start e =
    let (first, others) = or_else_fine _ _ e in
    let (second, third) = or_else_fine _ _ others in
    let (there, room) = and_yes (leb (states * (n_u * n_v)) (length next)) (leb (start + length (controller_bytes n_u n_v states next)) (length buffer)) (subst T (sym (unless_fine _ 10 0 refl second)) tt) in
    record {
      in_limits_lem = unless_fine _ 4 3 refl first;
      places_there = leb→le (states * (n_u * n_v)) (length next) there;
      room = leb→le (start + length (controller_bytes n_u n_v states next)) (length buffer) room;
      states_only = states_fine n_u n_v states next third;
    }

module _ (n_u n_v states : ℕ) (next buffer : List ℕ) (start : ℕ) (fine_write : refuses (write_refusal n_u n_v states next buffer start) ≡ false) where
  abbrev counts : List ℕ
  counts = n_u ∷ n_v ∷ states ∷ []

  abbrev table : List ℕ
  table = places n_u n_v states next

  abbrev rows : List (List ℕ)
  rows = listing n_u n_v 0 table

  pass : Passed n_u n_v states next buffer start
  pass = passed n_u n_v states next buffer start fine_write

  count_in : (j : ℕ) → j < length counts → (1 ≤ get_or counts j 0) × (get_or counts j 0 ≤ get_or controller_layout.limits j 0)
  count_in = limit_within counts controller_layout.limits (subst T (sym pass.in_limits_lem) tt)

  u_in : (1 ≤ n_u) × (n_u ≤ 4)
  unfolding controller_layout
  u_in = count_in 0 (omega arith)

  v_in : (1 ≤ n_v) × (n_v ≤ 4)
  unfolding controller_layout
  v_in = count_in 1 (omega arith)

  states_in : (1 ≤ states) × (states ≤ 512)
  unfolding controller_layout state_limit
  states_in = count_in 2 (omega arith)

  places_length : length table ≡ states * (n_u * n_v)
  places_length = length-take-le (states * (n_u * n_v)) next pass.places_there

  few_rows : length rows ≤ 8192
  few_rows =
      let most : states * (n_u * n_v) ≤ 8192 = mul-le-mul states_in.1 (mul-le-mul u_in.1 v_in.1) in
      omega (arith, places_length, listing_few n_u n_v 0 table)

  writable : Writable controller_layout counts rows
  unfolding controller_layout total
  writable =
      let (u_low, u_high) = u_in in
      let (v_low, v_high) = v_in in
      let (s_low, s_high) = states_in in
      record {
        kind_two = refl;
        row_some = omega arith;
        counts_fit = (omega arith, (omega arith, (omega arith, tt)));
        rows_fit = listing_fits n_u n_v states u_low v_low (omega arith) (omega arith) (omega arith) 0 table (omega (arith, places_length)) pass.states_only;
        bytes_fit = omega (arith, few_rows);
      }

  pub write_sound : fault controller_layout (controller_bytes n_u n_v states next) ≡ Ok tt
  unfolding controller_bytes controller_layout
  write_sound = record_sound controller_layout counts rows writable pass.in_limits_lem few_rows
      (listing_sound n_u n_v states u_in.0 v_in.0 table (omega (arith, places_length)) pass.states_only)

  pub write_counts : counts_in controller_layout (controller_bytes n_u n_v states next) ≡ n_u ∷ n_v ∷ states ∷ []
  unfolding controller_bytes
  write_counts = record_counts controller_layout counts rows writable

  pub write_table : controller_table (controller_bytes n_u n_v states next) ≡ places n_u n_v states next
  unfolding controller_table controller_bytes
  write_table = rw (record_counts controller_layout counts rows writable, record_rows controller_layout counts rows writable) (table_of_listing n_u n_v states table places_length)

-- a write that replies 0 is not refused
outcome_fine : (refused : Reply) (stays done : WriteOutcome) → stays.reply ≡ refused → (if refuses refused then stays else done).reply.number ≡ 0 → refuses refused ≡ false
outcome_fine refused stays done same = go (refuses refused) refl
  where
    go : (b : Bool) → refuses refused ≡ b → (if b then stays else done).reply.number ≡ 0 → b ≡ false
    go true p e = absurd (true≢false (sym p ∙ ap not (eq-eqb refused.number 0 (rw same at e))))
    go false p e = refl

pub write_not_refused : (n_u n_v states : ℕ) (next buffer : List ℕ) (start : ℕ) (reply : Reply) (buffer' : List ℕ) → ControllerWritten n_u n_v states next buffer start reply buffer' → reply.number ≡ 0
    → refuses (write_refusal n_u n_v states next buffer start) ≡ false
unfolding write_controller
write_not_refused n_u n_v states next buffer start reply buffer' done e = outcome_fine (write_refusal n_u n_v states next buffer start) _ _ refl (sym (ap (λ r. r.number) done.reply_is) ∙ e)

-- its bytes stand at the start place
pub written_there : (n_u n_v states : ℕ) (next buffer : List ℕ) (start : ℕ) (reply : Reply) (buffer' : List ℕ) → ControllerWritten n_u n_v states next buffer start reply buffer'
    → refuses (write_refusal n_u n_v states next buffer start) ≡ false → take (length (controller_bytes n_u n_v states next)) (drop start buffer') ≡ controller_bytes n_u n_v states next
unfolding write_controller
written_there n_u n_v states next buffer start reply buffer' done fine_write =
    let room = (passed n_u n_v states next buffer start fine_write).room in
    rw (done.buffer_is, fine_write, append_assoc) (ap (take (length bytes)) (drop_at (take start buffer) (bytes ++ rest) start (length-take-le start buffer (omega arith))) ∙ take_at bytes rest (length bytes) refl)
  where
    bytes : List ℕ
    bytes = controller_bytes n_u n_v states next

    rest : List ℕ
    rest = drop (start + length bytes) buffer
