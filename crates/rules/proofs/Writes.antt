-- Writing that meets no refusal: no place of a next table is bad, and where nothing refuses, the bytes stand in the buffer.
-- Assumes nothing.
use mathlib.Core.Path.{◌≡◌, refl}
use mathlib.Core.Logic.{◌⊎◌, ⊎_elim}
use mathlib.Core.Bool.{Bool, true, false, not, ◌||◌}
use mathlib.Core.List.{List, [], ◌∷◌, ◌++◌}
use Prim.Native.Nat.{ℕ, ◌+◌, ◌*◌, ◌≤◌, ◌<◌}
use native.Mathlib.Omega.{arith}
use lib.Dec.{ltb, eqb}
use lib.ListN.{length, get_or, take, drop}
use borrow.Author.Tests.{ltb-true, ltb-false, eqb-false, le-leb, le-ltb, not-true}
use Rattle.pairs.specs.Scans.{first_place}
use Rattle.pairs.proofs.Lists.{place_at}
use Rattle.rules.specs.Limits.{absent}
use Rattle.rules.specs.Layouts.{controller_layout}
use Rattle.rules.specs.Faults.{in_limits}
use Rattle.rules.specs.Replies.{success, unless, ◌or_else◌}
use Rattle.rules.specs.Writing.{bad_place, places, controller_bytes, place_refusal, write_refusal, write_controller}
use Rattle.rules.specs.Meaning.{NextTable}
use Rattle.rules.proofs.Sound.{or_false}

-- no place of a next table is bad
pub no_bad : (states : ℕ) (next : List ℕ) → NextTable states next → length next ≤ bad_place states next
unfolding bad_place
no_bad states next table = go (ltb (first_place bad next) (length next)) refl
  where
    bad : ℕ → Bool
    bad j = not (eqb j absent || ltb j states)

    good : (j : ℕ) → (j ≡ absent) ⊎ (j < states) → bad j ≡ true → ⊥
    good j entry h =
        let (other, above) = or_false (eqb j absent) (ltb j states) (not-true (eqb j absent || ltb j states) h) in
        ⊎_elim (eqb-false j absent other) (λ l. let h = ltb-false j states above in omega arith) entry

    go : (c : Bool) → ltb (first_place bad next) (length next) ≡ c → length next ≤ first_place bad next
    go true e = absurd (good (get_or next (first_place bad next) absent) (table.entry (first_place bad next)) (place_at bad next absent (ltb-true _ _ e)))
    go false e = ltb-false _ _ e

-- where nothing refuses, the bytes stand from the start place on
module _ (n_u n_v states : ℕ) (next buffer : List ℕ) (start : ℕ) where
  pub writes : in_limits (n_u ∷ n_v ∷ states ∷ []) controller_layout.limits ≡ true → states * (n_u * n_v) ≤ length next
      → start + length (controller_bytes n_u n_v states next) ≤ length buffer → length (places n_u n_v states next) ≤ bad_place states (places n_u n_v states next)
      → write_controller n_u n_v states next buffer start ≡ record {
        reply = success states 0;
        buffer = take start buffer ++ controller_bytes n_u n_v states next ++ drop (start + length (controller_bytes n_u n_v states next)) buffer;
      }
  unfolding write_controller write_refusal unless ◌or_else◌ place_refusal
  writes within wide room good = rw (
    within,
    le-leb (states * (n_u * n_v)) (length next) wide,
    le-leb (start + length (controller_bytes n_u n_v states next)) (length buffer) room,
    le-ltb (bad_place states (places n_u n_v states next)) (length (places n_u n_v states next)) good,
  )
