-- What the tests of a record's head need: refusals 1 to 4.
-- Assumes nothing.
use Rattle.std.specs.Prelude.{Ok, Err}
use mathlib.Core.Path.{◌≡◌, refl, sym, ◌∙◌}
use mathlib.Core.Bool.{Bool, true, false, not, ◌||◌}
use mathlib.Core.List.{List, [], ◌∷◌}
use Prim.Native.Nat.{ℕ, ◌+◌, ◌-◌, ◌%◌, ◌≤◌, ◌<◌}
use native.Mathlib.Omega.{arith}
use lib.Dec.{ltb, eqb}
use lib.ListN.{length, get_or, take, drop, length-take, length-drop}
use lib.Pointwise.{pointwise}
use lib.Seq.{get_or-take, get_or-drop}
use borrow.Author.Tests.{lt-ltb, le-ltb, ltb-false}
use Rattle.pairs.specs.Scans.{same}
use Rattle.rules.specs.declared.Kind.{Kind}
use Rattle.records.specs.declared.layouts.Layout as code
use Rattle.rules.specs.declared.Fault.{Fault}
use Rattle.rules.specs.declared.Fault.TheVariants.{Length, Cut, Limit}
use Rattle.rules.specs.declared.Fault.TheVariants as found
use Rattle.rules.specs.Layouts.{Layout, layout_of}
use Rattle.rules.specs.Records.{length_in, kind_in, head_size, row_size, counts_in, row_count, rows_in}
use Rattle.rules.specs.Faults.{Finding, in_limits, head_fault, rows_fault, fault}
use Rattle.records.specs.Inside.{Held, LaidOut}
use Rattle.rules.proofs.ByPlace.{length_numbers}
use Rattle.records.proofs.NumberLaws.{pointwise_same, front_held}
use Rattle.records.proofs.KindLaws.{laid}
use Rattle.rules.proofs.Sound.{or_false, head_sound}

-- 1
pub too_short : (n : ℕ) (rest : Bool) → n < 4 → true ≡ (ltb n 4 || rest)
too_short n rest h = rw (lt-ltb n 4 h)

pub length_told : (b : List ℕ) (said : ℕ) → 4 ≤ length b → said ≡ length_in (drop 0 b) → not (eqb (said + 2) (length b)) ≡ (ltb (length b) 4 || not (eqb (length_in b + 2) (length b)))
length_told b said h e = rw (le-ltb (length b) 4 h, e)

-- 2: lists of two numbers
two : (l : List ℕ) → length l ≡ 2 → l ≡ get_or l 0 0 ∷ get_or l 1 0 ∷ []
two (x ∷ y ∷ []) e = refl
two [] e = absurd (omega arith)
two (x ∷ []) e = absurd (omega arith)
two (x ∷ y ∷ z ∷ l) e = absurd (omega arith)

kind_two : (b : List ℕ) → 4 ≤ length b → kind_in b ≡ get_or b 2 0 ∷ get_or b 3 0 ∷ []
kind_two b h =
    let e : length (kind_in b) ≡ 2 = simp (length-take, length-drop) (omega arith) in
    two (kind_in b) e ∙ rw (get_or-take 2 (drop 2 b) 0 0 (omega arith), get_or-take 2 (drop 2 b) 1 0 (omega arith), get_or-drop 2 b 0 0, get_or-drop 2 b 1 0)

pub kind_told : (l : Layout) (s : code.Layout) → LaidOut l s → (b : List ℕ) → 4 ≤ length b → (r : Bool)
    → r ≡ not (pointwise eqb (get_or b 2 0 ∷ get_or b 3 0 ∷ []) s.kind) → r ≡ not (same (kind_in b) l.kind)
kind_told l s known b whole r e = e ∙ rw (pointwise_same, kind_two b whole, known.kind_is)

-- 3
module _ (l : Layout) (s : code.Layout) (known : LaidOut l s) (b : List ℕ) where
  abbrev cut : Bool
  cut = ltb (length b) (head_size l) || not (eqb ((length b - head_size l) % row_size l) 0)

  pub head_cut : length b < s.head_size → true ≡ cut
  head_cut h = rw (lt-ltb (length b) (head_size l) (omega (arith, known.head_is)))

  pub row_cut : s.head_size ≤ length b → not (eqb ((length b - s.head_size) % s.row_size) 0) ≡ cut
  row_cut h = rw (le-ltb (length b) (head_size l) (omega (arith, known.head_is)), known.head_is, known.row_is)

-- 4
module _ (kind : Kind) (b : List ℕ) where
  abbrev l : Layout
  l = layout_of kind

  abbrev outside : Bool
  outside = not (in_limits (counts_in l b) l.limits) || ltb l.row_limit (row_count l b)

  module _ (counts : List ℕ) (held : Held (counts_in l b) counts) (flag : Bool) (tested : flag ≡ in_limits (take (length l.limits) counts) l.limits) where
    counts_are : take (length l.limits) counts ≡ counts_in l b
    counts_are = rw (held.same_numbers, (laid kind).limit_each, ← length_numbers l.count_sizes (drop 4 b)) (front_held 6 (counts_in l b))

    limits_are : in_limits (counts_in l b) l.limits ≡ flag
    limits_are = sym (tested ∙ rw counts_are)

    pub counts_outside : flag ≡ false → true ≡ outside
    counts_outside e = sym (rw (limits_are, e))

    pub rows_decide : flag ≡ true → (s : code.Layout) → LaidOut l s → (n : ℕ) → n ≡ row_count l b → ltb s.row_limit n ≡ outside
    rows_decide e s known n counted = sym (rw (limits_are, e, ← known.rows_are, ← counted))

  -- the four in their order
  module _ (short : Bool) (short_is : short ≡ (ltb (length b) 4 || not (eqb (length_in b + 2) (length b)))) where
    pub length_found : short ≡ true → Err Length ≡ head_fault l b
    unfolding head_fault
    length_found e = sym (rw (← short_is, e))

    module _ (right : short ≡ false) where
      pub four_bytes : 4 ≤ length b
      four_bytes = ltb-false (length b) 4 (or_false (ltb (length b) 4) (not (eqb (length_in b + 2) (length b))) (sym short_is ∙ right)).0

      module _ (other : Bool) (other_is : other ≡ not (same (kind_in b) l.kind)) where
        pub kind_found : other ≡ true → Err found.Kind ≡ head_fault l b
        unfolding head_fault
        kind_found e = sym (rw (← short_is, right, ← other_is, e))

        module _ (own : other ≡ false) (broken : Bool)
            (broken_is : broken ≡ (ltb (length b) (head_size l) || not (eqb ((length b - head_size l) % row_size l) 0))) where
          pub cut_found : broken ≡ true → Err Cut ≡ head_fault l b
          unfolding head_fault
          cut_found e = sym (rw (← short_is, right, ← other_is, own, ← broken_is, e))

          module _ (whole : broken ≡ false) (over : Bool) (over_is : over ≡ outside) where
            pub limit_found : over ≡ true → Err Limit ≡ head_fault l b
            unfolding head_fault
            limit_found e = sym (rw (← short_is, right, ← other_is, own, ← broken_is, whole, ← over_is, e))

            pub nothing_found : over ≡ false → Ok tt ≡ head_fault l b
            unfolding head_fault
            nothing_found e = sym (rw (← short_is, right, ← other_is, own, ← broken_is, whole, ← over_is, e))

-- ---- head, then rows
module _ (kind : Kind) (b : List ℕ) where
  pub few_rows : Ok tt ≡ head_fault (layout_of kind) b → row_count (layout_of kind) b < 65536
  few_rows e =
      let h = head_sound (layout_of kind) b (sym e) in
      omega (arith, h.few_rows, (laid kind).rows_few)

  pub head_decides : (x : Fault) → Err x ≡ head_fault (layout_of kind) b → Err x ≡ fault (layout_of kind) b
  unfolding fault
  head_decides x e = rw (← e)

  pub rows_follow : Ok tt ≡ head_fault (layout_of kind) b → (r : Finding) → r ≡ rows_fault (layout_of kind) (counts_in (layout_of kind) b) 0 [] (rows_in (layout_of kind) b) → r ≡ fault (layout_of kind) b
  unfolding fault
  rows_follow e r q = q ∙ sym (rw (← e))
