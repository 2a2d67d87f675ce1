-- A specification's next table, lent as the front of an array: what is ready and what is judged with the one is so with the other.
-- Assumes nothing.
use mathlib.Core.Path.{◌≡◌}
use mathlib.Core.List.{List}
use Prim.Native.Nat.{ℕ, ◌*◌}
use lib.ListN.{length, take}
use Rattle.rules.specs.Tables.{specification_table, SpecificationFilled}
use Rattle.verdicts.specs.Verdict.{Verdict}
use Rattle.tables.specs.declared.Sizes.{Sizes}
use Rattle.tables.specs.Workable.{Few}
use Rattle.tables.proofs.SpecificationLaws.{lent_has, lent_had}
use Rattle.fit.specs.Ready.{Ready, Judged}

module _ (z : Sizes) (few : Few z) (specification : List ℕ) (long : length (specification_table specification) ≡ z.specifications * z.steps) (array table : List ℕ) (whole : length array ≡ 4096) (filled : SpecificationFilled specification array table) (context next : List ℕ) where
  pub lent_ready : Ready z context (specification_table specification) next → Ready z context (take (z.specifications * z.steps) table) next
  lent_ready = lent_has z few specification long array table whole filled (λ l. Ready z context l next)

  pub lent_judged : (sets : List ℕ) (v : Verdict) (sets' : List ℕ) → Judged z context (take (z.specifications * z.steps) table) next sets v sets'
      → Judged z context (specification_table specification) next sets v sets'
  lent_judged sets v sets' = lent_had z few specification long array table whole filled (λ l. Judged z context l next sets v sets')
