-- The skid of two records without fault that match, and the table of a controller record without fault that matches, are those of their rows.
-- Assumes nothing.
use mathlib.Core.Path.{◌≡◌}
use mathlib.Core.Bool.{true}
use mathlib.Core.List.{List}
use Prim.Native.Nat.{ℕ}
use lib.ListN.{get_or}
use Rattle.std.specs.Prelude.{Ok}
use Rattle.rules.specs.Layouts.{context_layout, specification_layout, controller_layout}
use Rattle.rules.specs.Faults.{fault}
use Rattle.rules.specs.Tables.{skid_of, row_state, row_next}
use Rattle.rules.specs.Matching.{outside_agree, letters_agree}
use Rattle.rules.specs.Continues.{every_input}
use Rattle.rules.proofs.Sound.{row_length}
use Rattle.rules.proofs.Legal.{legal_skid}
use Rattle.rules.proofs.Rows.{action}
use Rattle.rules.proofs.Read.{six, context_row_lem, specification_row_lem, specification_codes, controller_row_lem, controller_codes}
use Rattle.promises.specs.Rows.{IsSkidOfRows, IsTableOfRows}

-- a row's fields are below the context's counts, so it is a row of codes of the skid
pub skid_of_rows : (context specification : List ℕ) → fault context_layout context ≡ Ok tt → fault specification_layout specification ≡ Ok tt
    → outside_agree context specification ≡ true → IsSkidOfRows context specification
unfolding skid_of context_layout
skid_of_rows context specification ec es agree = record {
  context_steps = λ a x a'. context_row_lem context specification ec es a x.0.0.0 x.1.1.0 x.1.0.0 x.0.1.0 a';
  context_rows_lem = λ r m. (
    row_state r,
    action (skid_of context specification) (legal_skid context specification ec es) every_input r m,
    row_next r,
    six r (row_length context_layout context ec r m),
  );
  specification_steps = λ c f c'. specification_row_lem context specification es agree c f.0.0 f.1.0 c' f.0.1 f.1.1;
  specification_rows = λ r m.
      let (i_below, o_below, fields) = specification_codes context specification es agree r m in
      (get_or r 0 0, ((get_or r 1 0, i_below), (get_or r 2 0, o_below)), get_or r 3 0, fields);
}

-- the same of a controller's rows, by the context's U and V
pub table_of_rows : (context specification controller : List ℕ) → fault controller_layout controller ≡ Ok tt
    → letters_agree context controller ≡ true → IsTableOfRows context specification controller
table_of_rows context specification controller et agree = record {
  controller_steps = λ d l d'. controller_row_lem context specification controller et agree d l.0.0 l.1.0 d' l.0.1 l.1.1;
  controller_rows = λ r m.
      let (u_below, v_below, fields) = controller_codes context specification controller et agree r m in
      (get_or r 0 0, ((get_or r 1 0, u_below), (get_or r 2 0, v_below)), get_or r 3 0, fields);
}
