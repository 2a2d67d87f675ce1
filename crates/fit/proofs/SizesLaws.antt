-- Three records that may be checked, by their counts: the skid within the limits and legal, and tables as long as the counts say.
-- Assumes nothing.
use mathlib.Core.Path.{◌≡◌, refl, sym, ap₂, ◌∙◌}
use mathlib.Core.List.{List}
use Prim.Native.Nat.{ℕ, ◌*◌, ◌≤◌}
use native.Mathlib.Nat.{mul-le-mul}
use native.Mathlib.Omega.{arith}
use lib.ListN.{length}
use Rattle.rules.specs.Limits.{state_limit}
use Rattle.rules.specs.Layouts.{controller_layout}
use Rattle.rules.specs.Records.{rows_in}
use Rattle.rules.specs.Counts.{context_counts, controller_counts}
use Rattle.rules.specs.Matching.{letters_agree}
use Rattle.rules.specs.Tables.{specification_table, controller_table}
use Rattle.rules.proofs.Sound.{count_within}
use Rattle.rules.proofs.Legal.{read_controller_lem}
use Rattle.rules.proofs.NextTables.{table_length}
use Rattle.rules.proofs.Read.{agreeing}
use Rattle.verdicts.specs.Checkable.{Checkable}
use Rattle.tables.specs.declared.Sizes.{Sizes}
use Rattle.tables.specs.Workable.{Few, Workable}
use Rattle.tables.specs.Skids.{skid_counts, SkidRead}
use Rattle.tables.proofs.SkidLaws.{sizes_read, sizes_workable}
use Rattle.fit.specs.Ready.{Ready}

-- a controller's next table
pub table_few : (z : Sizes) → Few z → z.states * z.letters ≤ 8192
table_few z few = rw few.letters_are (mul-le-mul few.few_states (mul-le-mul few.few_signals few.few_replies))

module _ (context specification controller : List ℕ) where
  abbrev pub sizes_read_lem : Sizes
  sizes_read_lem = sizes_read context specification (controller_counts controller).states

  module _ (sets : List ℕ) (ok : Checkable context specification controller sets) where
    skid : SkidRead context specification (skid_counts context specification)
    skid = record { context_sound = ok.context_sound; specification_sound = ok.specification_sound; counts_are = refl }

    states_few : (controller_counts controller).states ≤ 512
    unfolding controller_layout state_limit
    states_few = (count_within controller_layout controller ok.controller_sound 2 (omega arith)).1

    workable : Workable sizes_read_lem context (specification_table specification)
    workable = sizes_workable context specification (controller_counts controller).states _ skid states_few ok.product_fits_lem

    pub sizes_ready : Ready sizes_read_lem context (specification_table specification) (controller_table controller)
    sizes_ready = record { workable = workable; table = read_controller_lem controller ok.controller_sound }

    -- U and V are those of the context
    pub controller_long : length (controller_table controller) ≡ sizes_read_lem.states * sizes_read_lem.letters
    unfolding controller_table letters_agree
    controller_long =
        let c = context_counts context in
        let t = controller_counts controller in
        let (eu, ev) = agreeing c.u t.u c.v t.v ok.letters_agree_lem in
        table_length t.u t.v t.states (rows_in controller_layout controller) ∙ ap₂ (λ u v. t.states * (u * v)) (sym eu) (sym ev)
