-- Document 01, "The controller record is written from a start place in the caller's buffer onwards; all other bytes stay."
-- Assumes nothing.
use Rattle.std.specs.Prelude.{◌≡◌, ℕ, ◌+◌, ◌*◌, not, ◌&&◌, ◌||◌, List, [], ◌∷◌, ◌++◌, leb, ltb, eqb, length, take, drop, if◌then◌else◌}
use Rattle.pairs.specs.Scans.{first_place}
use Rattle.rules.specs.declared.Reply.{Reply}
use Rattle.rules.specs.Limits.{absent}
use Rattle.rules.specs.Layouts.{controller_layout}
use Rattle.rules.specs.Records.{record_of}
use Rattle.rules.specs.Faults.{in_limits}
use Rattle.rules.specs.Replies.{success, refusal, fine, refuses, unless, ◌or_else◌}
use Rattle.rules.specs.NextTables.{listing}

-- "the first place whose number is neither 65535 nor below states"; as many as the places where there is none
unfoldable pub bad_place : ℕ → List ℕ → ℕ
bad_place states places = first_place (λ j. not (eqb j absent || ltb j states)) places

pub record WriteOutcome : Type 0 where
  pub reply : Reply
  pub buffer : List ℕ

-- "It takes U, V, states and the next table"
module _ (n_u n_v states : ℕ) (next : List ℕ) where
  -- the places that the table must have; what stands behind them is not looked at
  abbrev pub places : List ℕ
  places = take (states * (n_u * n_v)) next

  -- "and has a row for each place that is not 65535"
  unfoldable pub controller_bytes : List ℕ
  controller_bytes = record_of controller_layout (n_u ∷ n_v ∷ states ∷ []) (listing n_u n_v 0 places)

  -- "Refusal 5 gives as row the first place ..."
  unfoldable pub place_refusal : Reply
  place_refusal = let bad : ℕ = bad_place states places in if ltb bad (length places) then refusal 5 3 bad 0 else fine

  -- "Writing: 4, 10, 5." 4 is of the counts alone: a table within their limits has no more than 8,192 places. "Refusal 10: the table lacks
  -- places, or too few bytes from the start place on, which may itself be past the end."
  unfoldable pub write_refusal : List ℕ → ℕ → Reply
  write_refusal buffer start =
      unless (in_limits (n_u ∷ n_v ∷ states ∷ []) controller_layout.limits) 4 3 or_else
      unless (leb (states * (n_u * n_v)) (length next) && leb (start + length controller_bytes) (length buffer)) 10 0 or_else
      place_refusal

  -- "all other bytes stay"; "A refused write changes nothing."
  unfoldable pub write_controller : List ℕ → ℕ → WriteOutcome
  write_controller buffer start =
      let refused : Reply = write_refusal buffer start in
      let placed : List ℕ = take start buffer ++ controller_bytes ++ drop (start + length controller_bytes) buffer in
      let done : WriteOutcome = record { reply = success states 0; buffer = placed } in
      let stays : WriteOutcome = record { reply = refused; buffer = buffer } in
      if refuses refused then stays else done

-- what the function ensures, for every input: the reply and the buffer at the end are those of the definition
pub record ControllerWritten (n_u n_v states : ℕ) (next buffer : List ℕ) (start : ℕ) (reply : Reply) (buffer' : List ℕ) : Type 0 where
  pub reply_is : reply ≡ (write_controller n_u n_v states next buffer start).reply
  pub buffer_is : buffer' ≡ (write_controller n_u n_v states next buffer start).buffer
