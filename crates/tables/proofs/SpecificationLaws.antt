-- A specification's next table at the front of an array of 4,096 numbers: the part that is lent is the table, so what holds of the one holds of the other.
-- Assumes nothing.
use mathlib.Core.Path.{◌≡◌, sym, ap, subst, ◌∙◌}
use mathlib.Core.List.{List}
use Prim.Native.Nat.{ℕ, ◌*◌, ◌^◌, ◌≤◌, ◌<◌}
use native.Mathlib.Nat.{mul-le-mul}
use native.Mathlib.Omega.{arith}
use lib.ListN.{length, take, drop}
use lib.Seq.{take_at}
use borrow.Author.Tests.{le-leb}
use Rattle.pairs.specs.Lent.{leading}
use Rattle.rules.specs.Tables.{specification_table, fill_specification, SpecificationFilled}
use Rattle.tables.specs.declared.Sizes.{Sizes}
use Rattle.tables.specs.Workable.{Few}

module _ (z : Sizes) where
  abbrev size : ℕ
  size = z.specifications * z.steps

  size_few : Few z → size ≤ 4096
  size_few few = rw few.steps_are (mul-le-mul few.few_specifications (mul-le-mul few.few_inputs few.few_outputs))

  pub steps_fit : Few z → size < 2 ^ 64
  steps_fit few = omega (arith, size_few few)

  pub lent_within : Few z → (table : List ℕ) → length table ≡ 4096 → size ≤ length table
  lent_within few table whole = omega (arith, whole, size_few few)

  module _ (few : Few z) (specification : List ℕ) (long : length (specification_table specification) ≡ size) (array table : List ℕ) (whole : length array ≡ 4096) (filled : SpecificationFilled specification array table) where
    table_leads : table ≡ leading (specification_table specification) array
    unfolding fill_specification
    table_leads = filled ∙ rw (le-leb (length (specification_table specification)) (length array) (omega (arith, long, whole, size_few few)))

    lent_is : take size table ≡ specification_table specification
    lent_is = ap (take size) table_leads ∙ take_at (specification_table specification) (drop (length (specification_table specification)) array) size long

    pub lent_count : size ≡ length (take size table)
    lent_count = sym (ap length lent_is ∙ long)

    module _ (P : List ℕ → Type 0) where
      -- of the table, and so of the part that is lent
      pub lent_has : P (specification_table specification) → P (take size table)
      lent_has h = subst P (sym lent_is) h

      -- of the part that is lent, and so of the table
      pub lent_had : P (take size table) → P (specification_table specification)
      lent_had h = subst P lent_is h
