-- What a record without fault holds: counts from 1 to their limits, each field below its count, keys that rise, no key twice.
-- Assumes nothing.
use Rattle.std.specs.Prelude.{Ok, Err, if◌then◌else◌}
use mathlib.Core.Path.{◌≡◌, refl, sym, ap, subst, ◌∙◌}
use mathlib.Core.Bool.{Bool, true, false, not, ◌&&◌, ◌||◌, true≢false, false≢true}
use mathlib.Core.List.Memᴰ
use mathlib.Core.List.{List, [], ◌∷◌, Memᴰ}
use Prim.Native.Nat.{ℕ, zero, suc, ◌+◌, ◌-◌, ◌%◌, ◌≤◌, ◌<◌}
use native.Mathlib.Omega.{arith}
use lib.Dec.{T, leb, ltb, eqb, leb→le, ltb→lt}
use lib.ListN.{length, get_or, drop, length-take}
use lib.Seq.{ext_get_or, get_or-take}
use borrow.Author.Tests.{ltb-false, eqb-true, not-false}
use mir.Facts.{and_yes}
use Rattle.pairs.specs.Scans.{same, less, total}
use Rattle.pairs.proofs.Scans.{with_at, with_equal}
use Rattle.rules.specs.declared.Fault.{Fault}
use Rattle.rules.specs.declared.Fault.TheVariants.{Length, Kind, Cut, Limit, Code, EqualKey, LowerKey}
use Rattle.rules.specs.Layouts.{Layout}
use Rattle.rules.specs.Records.{rows_of, length_in, kind_in, head_size, row_size, counts_in, row_count, rows_in}
use Rattle.rules.specs.Faults.{Finding, is_sound, in_limits, fields_below, key_of, head_fault, row_fault, rows_fault, fault}
use Rattle.rules.proofs.ByPlace.{length_numbers}
use Rattle.rules.proofs.Keys.{less_trans, less_other, KeysRise, rise_one}

pub sound : (f : Finding) → is_sound f ≡ true → f ≡ Ok tt
sound (Ok tt) e = refl
sound (Err f) e = absurd (false≢true e)

-- one test of a chain that finds nothing
passed : (c : Bool) (f : Fault) (rest : Finding) → (if c then Err f else rest) ≡ Ok tt → (c ≡ false) × (rest ≡ Ok tt)
passed true f rest e = absurd (false≢true (ap is_sound e))
passed false f rest e = (refl, e)

-- of two findings the first decides
both : (f rest : Finding) → (if is_sound f then rest else f) ≡ Ok tt → (f ≡ Ok tt) × (rest ≡ Ok tt)
both f rest = go (is_sound f) refl
  where
    go : (b : Bool) → is_sound f ≡ b → (if b then rest else f) ≡ Ok tt → (f ≡ Ok tt) × (rest ≡ Ok tt)
    go true p e = (sound f p, e)
    go false p e = absurd (true≢false (sym (ap is_sound e) ∙ p))

pub or_false : (a b : Bool) → (a || b) ≡ false → (a ≡ false) × (b ≡ false)
or_false true b e = absurd (true≢false e)
or_false false b e = (refl, e)

pub rows_length : (ws : List ℕ) (n : ℕ) (b r : List ℕ) → Memᴰ r (rows_of ws n b) → length r ≡ length ws
unfolding rows_of
rows_length ws zero b r m = absurd (Memᴰ.not-nil m)
rows_length ws (suc n) b r (Memᴰ.head e) = ap length e ∙ length_numbers ws b
rows_length ws (suc n) b r (Memᴰ.tail m) = rows_length ws n (drop (total ws) b) r m

pub limit_within : (counts limits : List ℕ) → T (in_limits counts limits) → (j : ℕ) → j < length counts → (1 ≤ get_or counts j 0) × (get_or counts j 0 ≤ get_or limits j 0)
limit_within counts limits t j h =
    let (low, high) = and_yes (leb 1 (get_or counts j 0)) (leb (get_or counts j 0) (get_or limits j 0)) (with_at (λ x l. leb 1 x && leb x l) counts limits 0 0 t j h) in
    (leb→le 1 (get_or counts j 0) low, leb→le (get_or counts j 0) (get_or limits j 0) high)

module _ (l : Layout) where
  -- a row that is sound, after the key before it
  record RowSound (counts before r : List ℕ) : Type 0 where
    fields : T (fields_below counts r l.below)
    new : same (key_of l r) before ≡ false
    up : less (key_of l r) before ≡ false

  row_sound : (counts : List ℕ) (k : ℕ) (before r : List ℕ) → row_fault l counts k before r ≡ Ok tt → RowSound counts before r
  unfolding row_fault
  row_sound counts k before r e =
      let (p₁, e₁) = passed (not (fields_below counts r l.below)) (Code k) _ e in
      let (p₂, e₂) = passed (same (key_of l r) before) (EqualKey k) _ e₁ in
      let (p₃, e₃) = passed (less (key_of l r) before) (LowerKey k) _ e₂ in
      record { fields = subst T (sym (not-false (fields_below counts r l.below) p₁)) tt; new = p₂; up = p₃ }

  -- all rows are
  abbrev Rising : List ℕ → List ℕ → List (List ℕ) → Type 0
  Rising counts before [] = Unit {0}
  Rising counts before (r ∷ rs) = RowSound counts before r × Rising counts (key_of l r) rs

  rows_rising : (counts : List ℕ) (k : ℕ) (before : List ℕ) (rows : List (List ℕ)) → rows_fault l counts k before rows ≡ Ok tt → Rising counts before rows
  unfolding rows_fault
  rows_rising counts k before [] e = tt
  rows_rising counts k before (r ∷ rs) e =
      let (e₁, e₂) = both (row_fault l counts k before r) (rows_fault l counts (suc k) (key_of l r) rs) e in
      (row_sound counts k before r e₁, rows_rising counts (suc k) (key_of l r) rs e₂)

  fields_below_lem : (counts before : List ℕ) (rows : List (List ℕ)) → Rising counts before rows → (r : List ℕ) → Memᴰ r rows → T (fields_below counts r l.below)
  fields_below_lem counts before [] h r x'' = elim x'' [ ]
  fields_below_lem counts before (x ∷ rows) h r (Memᴰ.head e) = subst (λ r. T (fields_below counts r l.below)) (sym e) h.0.fields
  fields_below_lem counts before (x ∷ rows) h r (Memᴰ.tail m) = fields_below_lem counts (key_of l x) rows h.1 r m

  -- rows of one length
  module _ (size : ℕ) where
    key_length : (r r' : List ℕ) → length r ≡ size → length r' ≡ size → length (key_of l r) ≡ length (key_of l r')
    key_length r r' e e' = simp (length-take, e, e')

    later_above : (counts x : List ℕ) (rows : List (List ℕ)) → length x ≡ size → ((r : List ℕ) → Memᴰ r rows → length r ≡ size)
        → Rising counts (key_of l x) rows → (r : List ℕ) → Memᴰ r rows → less (key_of l x) (key_of l r) ≡ true
    later_above counts x [] sx sizes h r m = absurd (Memᴰ.not-nil m)
    later_above counts x (y ∷ rows) sx sizes h r m =
        go m (less_other (key_of l y) (key_of l x) (key_length y x (sizes y (Memᴰ.head refl)) sx) h.0.new h.0.up)
        (λ m'. later_above counts y rows (sizes y (Memᴰ.head refl)) (λ r m. sizes r (Memᴰ.tail m)) h.1 r m')
      where
        go : Memᴰ r (y ∷ rows) → less (key_of l x) (key_of l y) ≡ true → (Memᴰ r rows → less (key_of l y) (key_of l r) ≡ true) → less (key_of l x) (key_of l r) ≡ true
        go (Memᴰ.head e) a rest = subst (λ r. less (key_of l x) (key_of l r) ≡ true) (sym e) a
        go (Memᴰ.tail m) a rest = less_trans (key_of l x) (key_of l y) (key_of l r) a (rest m)

    keys_up : (counts before : List ℕ) (rows : List (List ℕ)) → ((r : List ℕ) → Memᴰ r rows → length r ≡ size) → Rising counts before rows → KeysRise l.key_size rows
    keys_up counts before [] sizes h = tt
    keys_up counts before (x ∷ rows) sizes h = (
      later_above counts x rows (sizes x (Memᴰ.head refl)) (λ r m. sizes r (Memᴰ.tail m)) h.1,
      keys_up counts (key_of l x) rows (λ r m. sizes r (Memᴰ.tail m)) h.1,
    )

  -- a head that is sound: "the length is .. the bytes that follow it", the kind is the one expected, the counts are there and the last row is
  -- whole, each count is within its limit and so are the rows
  pub record HeadSound (b : List ℕ) : Type 0 where
    pub whole_record : length_in b + 2 ≡ length b
    pub own_kind : kind_in b ≡ l.kind
    pub counts_there : head_size l ≤ length b
    pub whole_rows : (length b - head_size l) % row_size l ≡ 0
    pub within : in_limits (counts_in l b) l.limits ≡ true
    pub few_rows : row_count l b ≤ l.row_limit

  pub head_sound : (b : List ℕ) → head_fault l b ≡ Ok tt → HeadSound b
  unfolding head_fault
  head_sound b e =
      let (p₁, e₁) = passed (ltb (length b) 4 || not (eqb (length_in b + 2) (length b))) Length _ e in
      let (p₂, e₂) = passed (not (same (kind_in b) l.kind)) Kind _ e₁ in
      let (p₃, e₃) = passed (ltb (length b) (head_size l) || not (eqb ((length b - head_size l) % row_size l) 0)) Cut _ e₂ in
      let (p₄, e₄) = passed (not (in_limits (counts_in l b) l.limits) || ltb l.row_limit (row_count l b)) Limit _ e₃ in
      let (q₁, w) = or_false (ltb (length b) 4) (not (eqb (length_in b + 2) (length b))) p₁ in
      let (q₃, z) = or_false (ltb (length b) (head_size l)) (not (eqb ((length b - head_size l) % row_size l) 0)) p₃ in
      let (q₄, f) = or_false (not (in_limits (counts_in l b) l.limits)) (ltb l.row_limit (row_count l b)) p₄ in
      record {
        whole_record = eqb-true (length_in b + 2) (length b) (not-false _ w);
        own_kind = with_equal eqb eqb-true (kind_in b) l.kind (not-false (same (kind_in b) l.kind) p₂);
        counts_there = ltb-false (length b) (head_size l) q₃;
        whole_rows = eqb-true ((length b - head_size l) % row_size l) 0 (not-false _ z);
        within = not-false (in_limits (counts_in l b) l.limits) q₄;
        few_rows = ltb-false l.row_limit (row_count l b) f;
      }

module _ (l : Layout) (b : List ℕ) (e : fault l b ≡ Ok tt) where
  parts : (head_fault l b ≡ Ok tt) × (rows_fault l (counts_in l b) 0 [] (rows_in l b) ≡ Ok tt)
  unfolding fault
  parts = both (head_fault l b) (rows_fault l (counts_in l b) 0 [] (rows_in l b)) e

  pub sound_head : HeadSound l b
  sound_head = head_sound l b parts.0

  rising : Rising l (counts_in l b) [] (rows_in l b)
  rising = rows_rising l (counts_in l b) 0 [] (rows_in l b) parts.1

  pub row_length : (r : List ℕ) → Memᴰ r (rows_in l b) → length r ≡ length l.field_sizes
  row_length = rows_length l.field_sizes (row_count l b) (drop (head_size l) b)

  -- "a code or state" is below its count
  pub field_below : (r : List ℕ) → Memᴰ r (rows_in l b) → (j : ℕ) → j < length l.field_sizes → get_or r j 0 < get_or (counts_in l b) (get_or l.below j 0) 0
  field_below r m j h = ltb→lt _ _ (with_at (λ x k. ltb x (get_or (counts_in l b) k 0)) r l.below 0 0 (fields_below_lem l (counts_in l b) [] (rows_in l b) rising r m) j
      (subst (λ n. j < n) (sym (row_length r m)) h))

  -- a count is at least 1 and at most its limit
  pub count_within : (j : ℕ) → j < length l.count_sizes → (1 ≤ get_or (counts_in l b) j 0) × (get_or (counts_in l b) j 0 ≤ get_or l.limits j 0)
  count_within j h = limit_within (counts_in l b) l.limits (subst T (sym sound_head.within) tt) j (subst (λ n. j < n) (sym (length_numbers l.count_sizes (drop 4 b))) h)

  -- "Keys rise strictly"
  pub keys_rise : KeysRise l.key_size (rows_in l b)
  keys_rise = keys_up l (length l.field_sizes) (counts_in l b) [] (rows_in l b) row_length rising

  -- no key twice
  pub one_key : (r r' : List ℕ) → Memᴰ r (rows_in l b) → Memᴰ r' (rows_in l b) → ((j : ℕ) → j < l.key_size → get_or r j 0 ≡ get_or r' j 0) → r ≡ r'
  one_key r r' m m' same = rise_one l.key_size (rows_in l b) keys_rise r r' m m'
      (ext_get_or 0 (key_of l r) (key_of l r') (key_length l (length l.field_sizes) r r' (row_length r m) (row_length r' m'))
      λ j h. let h' : j < l.key_size = omega (arith, length-take l.key_size r) in get_or-take l.key_size r j 0 h' ∙ same j h' ∙ sym (get_or-take l.key_size r' j 0 h'))
