-- The digits of a number are those that the library prints.
-- Assumes nothing.
use mathlib.Core.Path.{◌≡◌, sym, ap, ◌∙◌}
use mathlib.Core.List.{List, ◌∷◌, [], ◌++◌}
use Prim.Native.Nat.{ℕ, ◌+◌, ◌^◌, ◌%◌, ◌<◌}
use lib.ListN.{length}
use Rattle.std.specs.Fmt.{decimal}
use Rattle.std.proofs.lemmas.Fmt.{decimal_by_steps}
use Rattle.text.specs.Lines.{digits}
use Rattle.text.specs.declared.growing.Text.{Text}
use Rattle.text.specs.Growing.{Room, Grown}
use Rattle.text.proofs.Digits.{digits_one, digits_more}

pub decimal_digits : (n : ℕ) → n < 2 ^ 64 → decimal n ≡ digits n
decimal_digits n fits =
    decimal_by_steps (λ n ds. ds ≡ digits n) (λ n one. sym (digits_one n one)) (λ n ds more tenth. ap (λ front. front ++ ((48 + n % 10) ∷ [])) tenth ∙ sym (digits_more n more)) n fits

-- what was printed stands behind the text
module _ (n : ℕ) (printed : List ℕ) (fits : n < 2 ^ 64) (is : printed ≡ decimal n) where
  pub number_room : (text : Text) → Room (length (digits n)) text → Room (length printed) text
  number_room text room = rw (is, decimal_digits n fits) room

  pub number_put : (was now : Text) → Grown printed was now → Grown (digits n) was now
  number_put was now put = rw (is, decimal_digits n fits) at put
