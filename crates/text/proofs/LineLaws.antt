-- The lines: the parts of each text, and that the parts put one after the other are the text.
-- Assumes nothing.
use mathlib.Core.Path.{◌≡◌}
use mathlib.Core.List.{List, [], ◌∷◌, ◌++◌, append_assoc}
use Prim.Native.Nat.{ℕ}
use lib.ListN.{length}
use borrow.Author.Tests.{eq-eqb, ne_eqb}
use Rattle.rules.specs.declared.Reply.{Reply}
use Rattle.text.specs.Lines.{digits, line_end, line, states_word, rounds_word, refused_word, record_word, row_word, fits_word, refused_text, solved_line, checked_text}
use Rattle.text.specs.declared.growing.Text.{Text}
use Rattle.text.specs.Growing.{Room, Grown}
use Rattle.text.proofs.GrowingLaws.{grown_then, front_room, rest_room}

-- the last part of each
abbrev end : List ℕ
end = line_end ∷ []

-- ---- "state u v next"

module _ (s u v n : ℕ) where
  pub step_parts : line (s ∷ u ∷ v ∷ n ∷ []) ≡ digits s ++ (32 ∷ digits u) ++ (32 ∷ digits v) ++ (32 ∷ digits n) ++ end
  unfolding line
  step_parts = simp append_assoc

  pub step_put : {a b c d e f : Text} → Grown (digits s) a b → Grown (32 ∷ digits u) b c → Grown (32 ∷ digits v) c d → Grown (32 ∷ digits n) d e → Grown end e f
      → Grown (line (s ∷ u ∷ v ∷ n ∷ [])) a f
  step_put p q r s t = rw step_parts (grown_then (grown_then (grown_then (grown_then p q) r) s) t)

-- ---- "refused N record K row W rounds R"

module _ (r : Reply) where
  pub refused_parts : refused_text r ≡ (refused_word ++ digits r.number) ++ (record_word ++ digits r.«record») ++ (row_word ++ digits r.row) ++ (rounds_word ++ digits r.rounds) ++ end
  unfolding refused_text line
  refused_parts = simp append_assoc

  pub refused_put : {a b c d e f : Text} → Grown (refused_word ++ digits r.number) a b → Grown (record_word ++ digits r.«record») b c → Grown (row_word ++ digits r.row) c d
      → Grown (rounds_word ++ digits r.rounds) d e → Grown end e f → Grown (refused_text r) a f
  refused_put p q s t u = rw refused_parts (grown_then (grown_then (grown_then (grown_then p q) s) t) u)

-- ---- "states N rounds R"

module _ (s n : ℕ) where
  pub solved_parts : solved_line s n ≡ (states_word ++ digits s) ++ (rounds_word ++ digits n) ++ end
  unfolding solved_line line
  solved_parts = simp append_assoc

  pub solved_put : {a b c d : Text} → Grown (states_word ++ digits s) a b → Grown (rounds_word ++ digits n) b c → Grown end c d → Grown (solved_line s n) a d
  solved_put p q r = rw solved_parts (grown_then (grown_then p q) r)

-- ---- "fits states N", or the refusal

module _ (r : Reply) where
  abbrev fits : List ℕ
  fits = fits_word ++ states_word ++ digits r.states

  module _ (bad : r.number ≡ 0 → ⊥) where
    pub checked_refused : checked_text r ≡ refused_text r
    unfolding checked_text
    checked_refused = rw (ne_eqb r.number 0 bad)

    pub refused_room : (text : Text) → Room (length (checked_text r)) text → Room (length (refused_text r)) text
    refused_room text room = rw checked_refused at room

    pub checked_refused_put : {a b : Text} → Grown (refused_text r) a b → Grown (checked_text r) a b
    checked_refused_put p = rw checked_refused p

  module _ (fine : r.number ≡ 0) where
    pub checked_parts : checked_text r ≡ fits ++ end
    unfolding checked_text line
    checked_parts = rw (eq-eqb r.number 0 fine) (simp append_assoc)

    pub fits_room : (text : Text) → Room (length (checked_text r)) text → Room (length fits) text
    fits_room text room = front_room fits end text (rw checked_parts at room)

    module _ {a b : Text} (p : Grown fits a b) where
      pub end_room : Room (length (checked_text r)) a → Room 1 b
      end_room room = rest_room p end (rw checked_parts at room)

      pub checked_put : {c : Text} → Grown end b c → Grown (checked_text r) a c
      checked_put q = rw checked_parts (grown_then p q)
