-- What both programs do with their input: the first record is cut off, and a text stands at the front of a buffer that is long enough for each.
-- Assumes nothing.
use Rattle.std.specs.Prelude.{if◌then◌else◌}
use mathlib.Core.Path.{◌≡◌, sym, ◌∙◌}
use mathlib.Core.Bool.{Bool, true, false}
use mathlib.Core.List.{List}
use Prim.Native.Nat.{ℕ, ◌-◌, ◌≤◌, ◌<◌}
use native.Mathlib.Omega.{arith}
use lib.Dec.{leb}
use lib.ListN.{length, take, drop, length-append, length-drop}
use lib.Seq.{take_all, length-take-le}
use borrow.Author.Tests.{le-leb, lt-leb}
use Rattle.pairs.specs.Lent.{leading}
use Rattle.text.specs.Inputs.{record_end, first_record, behind}
use Rattle.text.specs.Programs.{TextPut}
use Rattle.text.specs.declared.growing.Text.{Text}
use Rattle.text.specs.Growing.{Grown}
use Rattle.text.proofs.CutLaws.{end_within}

-- ---- the parts of the input
-- the bytes from a place on
pub bytes_from : (n : ℕ) (b : List ℕ) → take (length b - n) (drop n b) ≡ drop n b
bytes_from n b = take_all (length b - n) (drop n b) (rw length-drop (omega arith))

module _ (b : List ℕ) (end : ℕ) (cut : end ≡ record_end b) where
  pub cut_within : end ≤ length b
  cut_within = omega (arith, cut, end_within b)

  pub cut_length : end ≡ length (take end b)
  cut_length = sym (length-take-le end b cut_within)

  pub cut_first : take end b ≡ first_record b
  unfolding first_record
  cut_first = rw cut

  pub cut_behind : take (length b - end) (drop end b) ≡ behind b
  unfolding behind
  cut_behind = bytes_from end b ∙ rw cut

-- ---- a text and the buffer
module _ (limit : ℕ) (text out : List ℕ) where
  pub buffer_stays : length out < limit → TextPut limit text out 0 out
  buffer_stays h = let short = lt-leb limit (length out) h in record { size_is = rw short; buffer_is = rw short }

  -- a text that begins at the front of the buffer, which ends as what the text leaves if that is the same buffer
  pub text_put : limit ≤ length out → (was now : Text) → Grown text was now → was.end ≡ 0 → was.out.now ≡ out
      → (out' : List ℕ) → (was.out.ghost_name ≡ now.out.ghost_name → out' ≡ now.out.now) → TextPut limit text out now.end out'
  text_put h was now put front lent out' back =
      let long = le-leb limit (length out) h in
      record {
        size_is = rw long (put.appends.end_is ∙ rw front (omega arith));
        buffer_is = rw long (back (sym put.same) ∙ put.appends.buffer_is ∙ rw (front, lent));
      }

-- the text that was put stands within the buffer, which is what a program that writes its bytes needs
module _ (limit : ℕ) (text out : List ℕ) (r : ℕ) (out' : List ℕ) (put : TextPut limit text out r out') where
  pub put_within : r ≤ length out'
  put_within = go (leb limit (length out)) put.size_is put.buffer_is
    where
      go : (b : Bool) → r ≡ (if b then length text else 0) → out' ≡ (if b then leading text out else out) → r ≤ length out'
      go true size buffer = rw (buffer, length-append) (omega arith)
      go false size buffer = omega arith

  pub put_counted : r ≡ length (take r out')
  put_counted = sym (length-take-le r out' put_within)
