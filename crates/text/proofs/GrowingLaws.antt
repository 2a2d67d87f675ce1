-- A text that grows twice has both parts, one behind the other, and there is room for each where there is room for both.
-- Assumes nothing.
use mathlib.Core.Path.{refl, ◌∙◌}
use mathlib.Core.List.{List, [], ◌++◌}
use Prim.Native.Nat.{ℕ}
use native.Mathlib.Omega.{arith}
use lib.ListN.{length, length-append}
use Rattle.text.specs.declared.growing.Text.{Text}
use Rattle.text.specs.Growing.{Room, Grown}
use Rattle.text.proofs.AppendLaws.{appends_then, appends_none}

-- no byte
pub grown_none : (text : Text) → Grown [] text text
grown_none text = record {
  appends = appends_none text.end text.out.now;
  long = refl;
  same = refl;
}

pub front_room : (xs ys : List ℕ) (text : Text) → Room (length (xs ++ ys)) text → Room (length xs) text
front_room xs ys text room = omega (arith, length-append xs ys)

module _ {xs : List ℕ} {was now : Text} (g : Grown xs was now) where
  pub rest_room : (ys : List ℕ) → Room (length (xs ++ ys)) was → Room (length ys) now
  rest_room ys room = omega (arith, length-append xs ys, g.appends.end_is, g.long)

  pub grown_then : {ys : List ℕ} {next : Text} → Grown ys now next → Grown (xs ++ ys) was next
  grown_then h = record {
    appends = appends_then g.appends h.appends was.inside;
    long = h.long ∙ g.long;
    same = h.same ∙ g.same;
  }
