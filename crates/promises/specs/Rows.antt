-- The skid of two records, and the table of a controller record, by the rows that stand in them: each step is a row, and each row is a step.
-- Assumes nothing.
use Rattle.std.specs.Prelude.{◌≡◌, ◌↔◌, ℕ}
use Rattle.std.proofs.Math.Option.{some}
use mathlib.Core.List.{List, [], ◌∷◌, Memᴰ}
use Rattle.words.specs.System.{Letter}
use Rattle.rules.specs.Layouts.{context_layout, specification_layout, controller_layout}
use Rattle.rules.specs.Records.{rows_in}
use Rattle.rules.specs.Tables.{skid_of, controller_table}
use Rattle.rules.specs.Continues.{every_input}
use Rattle.rules.specs.Meaning.{table_step}
use Rattle.verdicts.specs.Checkable.{skid_system}

module _ (context specification : List ℕ) where
  -- the row "(state, i, v, u, o, next)" of a step (i, u, v, o) of the context, and the row "(state, i, o, next)" of what is seen of it outside
  abbrev pub context_row : ℕ → (skid_system context specification).Step → ℕ → List ℕ
  context_row a x a' = a ∷ x.0.0.0 ∷ x.1.1.0 ∷ x.1.0.0 ∷ x.0.1.0 ∷ a' ∷ []

  abbrev pub specification_row : ℕ → (skid_system context specification).Outside → ℕ → List ℕ
  specification_row c f c' = c ∷ f.0.0 ∷ f.1.0 ∷ c' ∷ []

  -- the row "(state, u, v, next)" of a letter (u, v)
  abbrev pub controller_row : ℕ → Letter (skid_system context specification) → ℕ → List ℕ
  controller_row d l d' = d ∷ l.0.0 ∷ l.1.0 ∷ d' ∷ []

  -- so combined words, outside words and the states after them are those of the rows
  pub record IsSkidOfRows : Type 0 where
    pub context_steps : (a : ℕ) (x : (skid_system context specification).Step) (a' : ℕ)
        → ((skid_system context specification).ctx a x ≡ some a') ↔ Memᴰ (context_row a x a') (rows_in context_layout context)
    pub context_rows_lem : (r : List ℕ) → Memᴰ r (rows_in context_layout context)
        → (a : ℕ) × (x : (skid_system context specification).Step) × (a' : ℕ) × (r ≡ context_row a x a')
    pub specification_steps : (c : ℕ) (f : (skid_system context specification).Outside) (c' : ℕ)
        → ((skid_system context specification).spc c f ≡ some c') ↔ Memᴰ (specification_row c f c') (rows_in specification_layout specification)
    pub specification_rows : (r : List ℕ) → Memᴰ r (rows_in specification_layout specification)
        → (c : ℕ) × (f : (skid_system context specification).Outside) × (c' : ℕ) × (r ≡ specification_row c f c')

  -- so the controller words of a record are those of its rows
  pub record IsTableOfRows (controller : List ℕ) : Type 0 where
    pub controller_steps : (d : ℕ) (l : Letter (skid_system context specification)) (d' : ℕ)
        → (table_step (skid_of context specification) every_input (controller_table controller) d l ≡ some d')
        ↔ Memᴰ (controller_row d l d') (rows_in controller_layout controller)
    pub controller_rows : (r : List ℕ) → Memᴰ r (rows_in controller_layout controller)
        → (d : ℕ) × (l : Letter (skid_system context specification)) × (d' : ℕ) × (r ≡ controller_row d l d')
