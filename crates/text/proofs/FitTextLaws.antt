-- What `fit_table` puts: the text of its input's three records, or the refusal of an input that is too long.
-- Assumes nothing.
use mathlib.Core.Path.{◌≡◌, subst}
use mathlib.Core.List.{List}
use Prim.Native.Nat.{ℕ, ◌-◌, ◌^◌, ◌≤◌, ◌<◌}
use native.Mathlib.Omega.{arith}
use lib.ListN.{length, take, drop}
use borrow.Author.Tests.{lt-ltb, le-ltb}
use Rattle.pairs.specs.Lent.{set_size}
use Rattle.rules.specs.declared.Reply.{Reply}
use Rattle.rules.specs.Limits.{state_limit, set_numbers}
use Rattle.rules.specs.Replies.{refusal}
use Rattle.verdicts.specs.Check.{Checked}
use Rattle.text.specs.Lines.{refused_text, checked_text}
use Rattle.text.specs.Inputs.{fit_limit, fit_text_limit, record_end, first_record, behind}
use Rattle.text.specs.Programs.{zeros, fit_printed, fit_text, FitTextPut}
use Rattle.text.specs.Inside.{rest_printed}
use Rattle.text.specs.declared.growing.Text.{Text}
use Rattle.text.specs.Growing.{Room, Grown}
use Rattle.text.proofs.LengthLaws.{refused_length, checked_length}
use Rattle.text.proofs.ProgramLaws.{cut_first, cut_behind, buffer_stays, text_put}

-- "More than 77,848 bytes: refusal 1, record 0"
fit_text_long : (input : List ℕ) → 77848 < length input → refused_text (refusal 1 0 0 0) ≡ fit_text input
unfolding fit_limit fit_text
fit_text_long input h = rw (lt-ltb fit_limit (length input) h)

fit_text_cut : (input : List ℕ) → length input ≤ 77848 → rest_printed (first_record input) (behind input) ≡ fit_text input
unfolding fit_limit fit_text
fit_text_cut input h = rw (le-ltb fit_limit (length input) h)

module _ (was now : Text) where
  -- three records: the reply of the check, with a buffer of zeros
  pub verdict_put : (context specification controller : List ℕ) (reply : Reply) (sets' : List ℕ) → Checked context specification controller (zeros 512) reply sets'
      → Grown (checked_text reply) was now → Grown (fit_printed context specification controller) was now
  unfolding fit_printed set_numbers state_limit set_size
  verdict_put context specification controller reply sets' checked a = subst (λ reply. Grown (checked_text reply) was now) checked.reply_is a

  -- a context record, and the bytes behind it
  pub rest_put : (context rest : List ℕ) (end : ℕ) → end ≡ record_end rest
      → Grown (fit_printed context (take end rest) (take (length rest - end) (drop end rest))) was now → Grown (rest_printed context rest) was now
  rest_put context rest end cut a = rw (← cut_first rest end cut, ← cut_behind rest end cut) a

  -- the input
  pub too_long_put : (input : List ℕ) → 77848 < length input → (reply : Reply) → reply ≡ refusal 1 0 0 0 → Grown (refused_text reply) was now → Grown (fit_text input) was now
  too_long_put input h reply e a = rw (e, fit_text_long input h) at a

  pub input_put : (input : List ℕ) (end : ℕ) → end ≡ record_end input → length input ≤ 77848
      → Grown (rest_printed (take end input) (take (length input - end) (drop end input))) was now → Grown (fit_text input) was now
  input_put input end cut h a = rw (cut_first input end cut, cut_behind input end cut, fit_text_cut input h) at a

-- the program's text stands at the front of the buffer
pub program_put : (input out : List ℕ) → 70 ≤ length out → (was now : Text) → Grown (fit_text input) was now → was.end ≡ 0 → was.out.now ≡ out
    → (out' : List ℕ) → (was.out.ghost_name ≡ now.out.ghost_name → out' ≡ now.out.now) → FitTextPut input out now.end out'
unfolding fit_text_limit
program_put input out = text_put fit_text_limit (fit_text input) out

pub short_stays : (input out : List ℕ) → length out < 70 → FitTextPut input out 0 out
unfolding fit_text_limit
short_stays input out h = buffer_stays fit_text_limit (fit_text input) out h

-- the text fits
pub checked_fits : (r : Reply) → r.number < 2 ^ 32 → r.«record» < 2 ^ 32 → r.row < 2 ^ 32 → r.states < 2 ^ 32 → r.rounds < 2 ^ 32
    → (text : Text) → Room fit_text_limit text → Room (length (checked_text r)) text
unfolding fit_text_limit
checked_fits r number table row states rounds text h = omega (arith, checked_length r number table row rounds states)

-- and so does the line of a refusal
pub refused_room : (r : Reply) → r.number < 2 ^ 32 → r.«record» < 2 ^ 32 → r.row < 2 ^ 32 → r.rounds < 2 ^ 32 → (text : Text) → Room fit_text_limit text
    → Room (length (refused_text r)) text
unfolding fit_text_limit
refused_room r number table row rounds text h = omega (arith, refused_length r number table row rounds)
