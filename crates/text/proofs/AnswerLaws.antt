-- The text of an answer put at the front of a buffer: the refusal, or the first line and the table's lines behind it.
-- Assumes nothing.
use mathlib.Core.Path.{◌≡◌}
use mathlib.Core.List.{List, ◌++◌}
use Prim.Native.Nat.{ℕ, ◌*◌, ◌^◌, ◌≤◌, ◌<◌}
use native.Mathlib.Omega.{arith}
use lib.ListN.{length, take}
use borrow.Author.Tests.{eq-eqb, ne_eqb}
use Rattle.rules.specs.declared.Reply.{Reply}
use Rattle.text.specs.Lines.{refused_text, solved_line, solved_text}
use Rattle.text.specs.Inside.{step_lines, Codes, Tabled}
use Rattle.text.specs.declared.growing.Text.{Text}
use Rattle.text.specs.Growing.{Room, Grown}
use Rattle.text.proofs.GrowingLaws.{front_room, rest_room, grown_then}
use Rattle.text.proofs.StepLaws.{codes_fit}

module _ (n_u n_v : ℕ) (reply : Reply) (next : List ℕ) where
  pub refused_is : (reply.number ≡ 0 → ⊥) → solved_text n_u n_v reply next ≡ refused_text reply
  unfolding solved_text
  refused_is n = rw (ne_eqb reply.number 0 n)

  pub solved_is : reply.number ≡ 0 → solved_text n_u n_v reply next ≡ solved_line reply.states reply.rounds ++ step_lines n_u n_v 0 (take (reply.states * (n_u * n_v)) next)
  unfolding solved_text step_lines
  solved_is e = rw (eq-eqb reply.number 0 e)

  pub refused_room : (text : Text) → (reply.number ≡ 0 → ⊥) → Room (length (solved_text n_u n_v reply next)) text → Room (length (refused_text reply)) text
  refused_room text n room = rw (refused_is n) at room

  pub refused_grown : (was now : Text) → (reply.number ≡ 0 → ⊥) → Grown (refused_text reply) was now → Grown (solved_text n_u n_v reply next) was now
  refused_grown was now n put = rw (refused_is n) put

  -- its places are there, and fit
  pub codes_are : Tabled n_u n_v reply next → reply.number ≡ 0 → Codes n_u n_v (reply.states * (n_u * n_v))
  codes_are tabled e = tabled.codes e

  pub places_are : Tabled n_u n_v reply next → reply.number ≡ 0 → reply.states * (n_u * n_v) ≤ length next
  places_are tabled e = tabled.long_enough e

  pub steps_fit : Tabled n_u n_v reply next → reply.number ≡ 0 → n_u * n_v < 2 ^ 64
  steps_fit tabled e = codes_fit n_u n_v (reply.states * (n_u * n_v)) (tabled.codes e)

  pub size_fits : Tabled n_u n_v reply next → reply.number ≡ 0 → reply.states * (n_u * n_v) < 2 ^ 64
  size_fits tabled e = omega (arith, (tabled.codes e).few_places)

  -- the table's lines stand behind the first line
  pub solved_room : (text : Text) → reply.number ≡ 0 → Room (length (solved_text n_u n_v reply next)) text → Room (length (solved_line reply.states reply.rounds)) text
  solved_room text e room = front_room (solved_line reply.states reply.rounds) (step_lines n_u n_v 0 (take (reply.states * (n_u * n_v)) next)) text (rw (solved_is e) at room)

  module _ (was now : Text) (e : reply.number ≡ 0) (first : Grown (solved_line reply.states reply.rounds) was now) where
    pub steps_room : Room (length (solved_text n_u n_v reply next)) was → Room (length (step_lines n_u n_v 0 (take (reply.states * (n_u * n_v)) next))) now
    steps_room room = rest_room first (step_lines n_u n_v 0 (take (reply.states * (n_u * n_v)) next)) (rw (solved_is e) at room)

    pub solved_grown : (then : Text) → Grown (step_lines n_u n_v 0 (take (reply.states * (n_u * n_v)) next)) now then → Grown (solved_text n_u n_v reply next) was then
    solved_grown then table = rw (solved_is e) (grown_then first table)
