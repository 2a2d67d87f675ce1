-- What the looks at a next table need: how many places have a row, and the first bad place.
-- Assumes nothing.
use mathlib.Core.Path.{◌≡◌, refl, sym, ◌∙◌}
use mathlib.Core.Bool.{Bool, true, false, not}
use mathlib.Core.List.{List, [], ◌∷◌}
use Prim.Native.Nat.{ℕ, suc, ◌+◌, ◌≤◌, ◌<◌}
use native.Mathlib.Omega.{arith}
use lib.ListN.{length}
use lib.Dec.{ltb, eqb}
use borrow.Author.Tests.{ltb-true, ltb-false}
use Rattle.std.specs.Prelude.{Some, None, cond, count_by, position, if◌then◌else◌}
use Rattle.std.specs.List.{position_or_len}
use Rattle.std.proofs.lemmas.List.Recursion.{is_count_by, is_position_or_len}
use Rattle.pairs.specs.Scans.{first_place}
use Rattle.rules.specs.Limits.{absent}
use Rattle.rules.specs.Writing.{bad_place}
use Rattle.writing.specs.Inside.{present, is_bad}

-- how many places have a row
pub present_few : (ts : List ℕ) → present ts ≤ length ts
unfolding present
present_few [] = omega arith
present_few (t ∷ ts) = go (eqb t absent) (present_few ts)
  where
    go : (b : Bool) → present ts ≤ length ts → (if b then present ts else 1 + present ts) ≤ suc (length ts)
    go true h = omega arith
    go false h = omega arith

pub rows_counted : (ts : List ℕ) → count_by (λ t. not (eqb t absent)) ts ≡ present ts
unfolding present
rows_counted ts = sym (is_count_by present (λ t. not (eqb t absent)) refl (λ t rest. go (eqb t absent) (present rest)) ts)
  where
    go : (b : Bool) (n : ℕ) → (if b then n else 1 + n) ≡ cond (not b) (1 + n) n
    go true n = refl
    go false n = refl

bad_at : (states : ℕ) (places : List ℕ) → bad_place states places ≡ position_or_len (is_bad states) places
unfolding bad_place first_place
bad_at states places = is_position_or_len (bad_place states) (is_bad states) refl (λ x xs. go (is_bad states x) (bad_place states xs)) places
  where
    go : (b : Bool) (n : ℕ) → (if b then 0 else suc n) ≡ cond b 0 (1 + n)
    go true n = refl
    go false n = omega arith

-- the position is the bad place; where there is none, that is as many as the places
module _ (states : ℕ) (places : List ℕ) where
  abbrev at : ℕ
  at = position_or_len (is_bad states) places

  pub bad_found : (bad : ℕ) → position (is_bad states) places ≡ Some bad → (bad_place states places ≡ bad) × (bad < length places)
  bad_found bad e = go (ltb at (length places)) refl e
    where
      go : (t : Bool) → ltb at (length places) ≡ t → cond t (Some at) None ≡ Some bad → (bad_place states places ≡ bad) × (bad < length places)
      go true q s = let same : at ≡ bad = cc in (bad_at states places ∙ same, rw same at (ltb-true at (length places) q))
      go false q s = cc

  pub bad_none : position (is_bad states) places ≡ None → length places ≤ bad_place states places
  bad_none e = rw bad_at (go (ltb at (length places)) refl e)
    where
      go : (t : Bool) → ltb at (length places) ≡ t → cond t (Some at) None ≡ None → length places ≤ at
      go true q s = cc
      go false q s = ltb-false at (length places) q
