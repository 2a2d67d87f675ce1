-- Two records that were read and match, by their counts: within the limits, the skid legal, and the specification's table as long as the counts say.
-- Assumes nothing.
use mathlib.Core.Path.{◌≡◌, refl, sym, ap₂, ◌∙◌}
use mathlib.Core.Bool.{true}
use mathlib.Core.List.{List}
use Prim.Native.Nat.{ℕ, ◌*◌, ◌≤◌}
use native.Mathlib.Omega.{arith}
use lib.ListN.{length}
use borrow.Author.Tests.{leb-true}
use Rattle.pairs.specs.Sets.{pair_limit}
use Rattle.rules.specs.Layouts.{context_layout, specification_layout}
use Rattle.rules.specs.Records.{rows_in}
use Rattle.rules.specs.Counts.{context_counts, specification_counts}
use Rattle.rules.specs.Tables.{skid_of, specification_table}
use Rattle.rules.specs.Matching.{outside_agree, product_fits}
use Rattle.rules.proofs.Sound.{count_within}
use Rattle.rules.proofs.Legal.{legal_skid}
use Rattle.rules.proofs.NextTables.{table_length}
use Rattle.rules.proofs.Read.{agreeing}
use Rattle.tables.specs.declared.Sizes.{Sizes}
use Rattle.tables.specs.declared.skids.SkidCounts.{SkidCounts}
use Rattle.tables.specs.Workable.{skid_in, Few, Workable}
use Rattle.tables.specs.Skids.{sizes_of, SkidRead}

-- the counts that were read are those of the records
module _ (context specification : List ℕ) (states : ℕ) where
  abbrev pub sizes_read : Sizes
  sizes_read = sizes_of (context_counts context) (specification_counts specification) states

  -- they make the skid of the records
  pub skid_is : skid_in sizes_read context (specification_table specification) ≡ skid_of context specification
  unfolding skid_of
  skid_is = refl

  module _ (k : SkidCounts) (skid : SkidRead context specification k) where
    pub sizes_are : (z : Sizes) → z ≡ sizes_of k.context k.specification states → z ≡ sizes_read
    sizes_are z e = e ∙ rw skid.counts_are

    module _ (few : states ≤ 512) (fits : product_fits context specification ≡ true) where
      few_sizes : Few sizes_read
      unfolding context_layout specification_layout product_fits pair_limit
      few_sizes = record {
        few_inputs = (count_within context_layout context skid.context_sound 0 (omega arith)).1;
        few_outputs = (count_within context_layout context skid.context_sound 1 (omega arith)).1;
        few_signals = (count_within context_layout context skid.context_sound 2 (omega arith)).1;
        few_replies = (count_within context_layout context skid.context_sound 3 (omega arith)).1;
        few_pairs = leb-true ((context_counts context).states * (specification_counts specification).states) 64 fits;
        few_contexts = (count_within context_layout context skid.context_sound 4 (omega arith)).1;
        few_specifications = (count_within specification_layout specification skid.specification_sound 2 (omega arith)).1;
        few_states = few;
        letters_are = refl;
        steps_are = refl;
      }

      pub sizes_workable : Workable sizes_read context (specification_table specification)
      unfolding skid_of
      sizes_workable = record { few = few_sizes; sound = skid.context_sound; legal = legal_skid context specification skid.context_sound skid.specification_sound }

  -- I and O are those of the context
  pub specification_long : outside_agree context specification ≡ true → length (specification_table specification) ≡ sizes_read.specifications * sizes_read.steps
  unfolding specification_table outside_agree
  specification_long agree =
      let c = context_counts context in
      let s = specification_counts specification in
      let (ei, eo) = agreeing c.i s.i c.o s.o agree in
      table_length s.i s.o s.states (rows_in specification_layout specification) ∙ ap₂ (λ i o. s.states * (i * o)) (sym ei) (sym eo)
