-- Two records without fault give legal tables, and a controller record without fault gives a next table of its states.
-- Assumes nothing.
use mathlib.Core.Path.{◌≡◌, sym, ap}
use mathlib.Core.List.{List}
use Prim.Native.Nat.{ℕ, zero, suc, ◌<◌}
use native.Mathlib.Omega.{arith}
use lib.ListN.{get_or}
use Rattle.std.specs.Prelude.{Ok}
use Rattle.rules.specs.Limits.{state_limit}
use Rattle.rules.specs.Layouts.{context_layout, specification_layout, controller_layout}
use Rattle.rules.specs.Records.{counts_in, rows_in}
use Rattle.rules.specs.Faults.{fault}
use Rattle.rules.specs.Tables.{skid_of, specification_table, controller_table, row_next}
use Rattle.rules.specs.Meaning.{NextTable, Keyed, Legal}
use Rattle.rules.proofs.Sound.{field_below, count_within, one_key}
use Rattle.rules.proofs.NextTables.{next_table}

-- the fields of a context row's key
pub key_fields : (r r' : List ℕ) → Keyed (get_or r 0 0) (get_or r 1 0) (get_or r 2 0) (get_or r 3 0) (get_or r 4 0) r' → (j : ℕ) → j < 5 → get_or r j 0 ≡ get_or r' j 0
key_fields r r' y zero h = sym y.same_state
key_fields r r' y (suc zero) h = sym y.same_i
key_fields r r' y (suc (suc zero)) h = sym y.same_v
key_fields r r' y (suc (suc (suc zero))) h = sym y.same_u
key_fields r r' y (suc (suc (suc (suc zero)))) h = sym y.same_o
key_fields r r' y (suc (suc (suc (suc (suc j))))) h = absurd (omega arith)

pub legal_skid : (cb sb : List ℕ) → fault context_layout cb ≡ Ok tt → fault specification_layout sb ≡ Ok tt → Legal (skid_of cb sb)
unfolding skid_of specification_table context_layout specification_layout
legal_skid cb sb ec es = record {
  context_start = (count_within context_layout cb ec 4 (omega arith)).0;
  context_rows_lem = λ r m. record {
    state_below = field_below context_layout cb ec r m 0 (omega arith);
    i_below = field_below context_layout cb ec r m 1 (omega arith);
    v_below = field_below context_layout cb ec r m 2 (omega arith);
    u_below = field_below context_layout cb ec r m 3 (omega arith);
    o_below = field_below context_layout cb ec r m 4 (omega arith);
    next_below = field_below context_layout cb ec r m 5 (omega arith);
  };
  one_next = λ r r' m m' y. ap row_next (one_key context_layout cb ec r r' m m' (key_fields r r' y));
  specification_table_lem =
      let (low, high) = count_within specification_layout sb es 2 (omega arith) in
      next_table (get_or (counts_in specification_layout sb) 0 0) (get_or (counts_in specification_layout sb) 1 0) (get_or (counts_in specification_layout sb) 2 0) (rows_in specification_layout sb)
      low (omega arith) (λ r m. field_below specification_layout sb es r m 3 (omega arith));
}

pub read_controller_lem : (tb : List ℕ) → fault controller_layout tb ≡ Ok tt → NextTable (get_or (counts_in controller_layout tb) 2 0) (controller_table tb)
unfolding controller_table controller_layout state_limit
read_controller_lem tb e =
    let (low, high) = count_within controller_layout tb e 2 (omega arith) in
    next_table (get_or (counts_in controller_layout tb) 0 0) (get_or (counts_in controller_layout tb) 1 0) (get_or (counts_in controller_layout tb) 2 0) (rows_in controller_layout tb)
    low (omega arith) (λ r m. field_below controller_layout tb e r m 3 (omega arith))
