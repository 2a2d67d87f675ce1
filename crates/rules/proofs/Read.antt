-- What was read says what the records' rows say: context, specification and controller go from a state to a state exactly if their record has
-- the row.
-- Assumes nothing.
use mathlib.Core.Path.{◌≡◌, refl, sym, ap, subst, ◌∙◌}
use mathlib.Core.Logic.{◌↔◌}
use mathlib.Core.Bool.{true, ◌&&◌}
use mathlib.Core.Option.{some}
use mathlib.Core.List.{List, [], ◌∷◌, Memᴰ}
use Prim.Native.Nat.{ℕ, zero, suc, ◌≤◌, ◌<◌}
use native.Mathlib.Omega.{arith}
use lib.Dec.{T, eqb, eqb→eq}
use lib.ListN.{length, get_or}
use mir.Facts.{and_yes}
use Rattle.std.specs.Prelude.{Ok}
use Rattle.rules.specs.Limits.{state_limit, absent}
use Rattle.rules.specs.Layouts.{Layout, context_layout, specification_layout, controller_layout}
use Rattle.rules.specs.Records.{counts_in, rows_in}
use Rattle.rules.specs.Faults.{fault}
use Rattle.rules.specs.NextTables.{step_place, there, table_of}
use Rattle.rules.specs.Tables.{specification_table, skid_of, context_next, spec_next, controller_table, letter_at, next_at}
use Rattle.rules.specs.Matching.{outside_agree, letters_agree}
use Rattle.rules.proofs.Sound.{row_length, field_below, count_within, one_key}
use Rattle.rules.proofs.Rows.{step_row, row_step}
use Rattle.rules.proofs.TableRows.{StepRow, StepRows, table_leads}
use Rattle.rules.proofs.Legal.{legal_skid}

-- a row of so many fields
pub four : (r : List ℕ) → length r ≡ 4 → r ≡ get_or r 0 0 ∷ get_or r 1 0 ∷ get_or r 2 0 ∷ get_or r 3 0 ∷ []
four [] e = absurd (omega arith)
four (a ∷ []) e = absurd (omega arith)
four (a ∷ b ∷ []) e = absurd (omega arith)
four (a ∷ b ∷ c ∷ []) e = absurd (omega arith)
four (a ∷ b ∷ c ∷ d ∷ []) e = refl
four (a ∷ b ∷ c ∷ d ∷ f ∷ r) e = absurd (omega arith)

pub six : (r : List ℕ) → length r ≡ 6 → r ≡ get_or r 0 0 ∷ get_or r 1 0 ∷ get_or r 2 0 ∷ get_or r 3 0 ∷ get_or r 4 0 ∷ get_or r 5 0 ∷ []
six [] e = absurd (omega arith)
six (a ∷ []) e = absurd (omega arith)
six (a ∷ b ∷ r) e = let rest = four r (omega arith) in ap (λ r. a ∷ b ∷ r) rest

-- the context goes from a on i, v, u and o to a' exactly if its record has the row
pub context_row_lem : (cb sb : List ℕ) → fault context_layout cb ≡ Ok tt → fault specification_layout sb ≡ Ok tt → (a i v u o a' : ℕ)
    → context_next (skid_of cb sb).context a i v u o ≡ some a' ↔ Memᴰ (a ∷ i ∷ v ∷ u ∷ o ∷ a' ∷ []) (rows_in context_layout cb)
unfolding skid_of context_layout
context_row_lem cb sb ec es a i v u o a' = (
  λ e. let (r, m, y, to) = step_row (rows_in context_layout cb) a i v u o a' e in
      subst (λ r. Memᴰ r (rows_in context_layout cb)) (six r (row_length context_layout cb ec r m) ∙ rw (y.same_state, y.same_i, y.same_v, y.same_u, y.same_o, to)) m,
  λ m. row_step (skid_of cb sb) (legal_skid cb sb ec es) (a ∷ i ∷ v ∷ u ∷ o ∷ a' ∷ []) m,
)

-- specification and controller: rows (state, x, y, next), whose counts are x's, y's and the states
module _ (l : Layout) (fields : length l.field_sizes ≡ 4) (below : l.below ≡ 2 ∷ 0 ∷ 1 ∷ 2 ∷ []) (key : l.key_size ≡ 3) (b : List ℕ) (e : fault l b ≡ Ok tt) where
  abbrev m : ℕ
  m = get_or (counts_in l b) 0 0

  abbrev n : ℕ
  n = get_or (counts_in l b) 1 0

  abbrev states : ℕ
  states = get_or (counts_in l b) 2 0

  field : (r : List ℕ) → Memᴰ r (rows_in l b) → (j : ℕ) → j < 4 → get_or r j 0 < get_or (counts_in l b) (get_or (2 ∷ 0 ∷ 1 ∷ 2 ∷ []) j 0) 0
  field r mr j h = rw below at (field_below l b e r mr j (rw fields h))

  pub step_rows : states ≤ absent → StepRows m n states (rows_in l b)
  step_rows few = record {
    few = few;
    state_below = λ r mr. field r mr 0 (omega arith);
    x_below = λ r mr. field r mr 1 (omega arith);
    y_below = λ r mr. field r mr 2 (omega arith);
    next_below = λ r mr. field r mr 3 (omega arith);
    one_next = λ r r' j mr mr' y. sym y.same_next ∙ ap (λ r. get_or r 3 0) (one_key l b e r' r mr' mr (λ j h. same r r' y j (rw key at h)));
  }
    where
      same : (r r' : List ℕ) {j : ℕ} → StepRow (get_or r 0 0) (get_or r 1 0) (get_or r 2 0) j r' → (j : ℕ) → j < 3 → get_or r' j 0 ≡ get_or r j 0
      same r r' y zero h = y.same_state
      same r r' y (suc zero) h = y.same_x
      same r r' y (suc (suc zero)) h = y.same_y
      same r r' y (suc (suc (suc j))) h = absurd (omega arith)

  -- the next table of the record's rows, read by counts that agree, leads from s by (x, y) to j exactly if the record has the row
  table_row : states ≤ absent → (m' n' : ℕ) → m' ≡ m → n' ≡ n → (s x y j : ℕ) → x < m' → y < n'
      → there (get_or (table_of m n states (rows_in l b)) (step_place m' n' s x y) absent) ≡ some j ↔ Memᴰ (s ∷ x ∷ y ∷ j ∷ []) (rows_in l b)
  table_row few m' n' em en s x y j hx hy = rw (em, en) (
    λ e'. let (r, mr, row) = leads.0 e' in
        subst (λ r. Memᴰ r (rows_in l b)) (four r (row_length l b e r mr ∙ fields) ∙ rw (row.same_state, row.same_x, row.same_y, row.same_next)) mr,
    λ mr. leads.1 (s ∷ x ∷ y ∷ j ∷ [], mr, record { same_state = refl; same_x = refl; same_y = refl; same_next = refl }),
  )
    where
      leads : there (get_or (table_of m n states (rows_in l b)) (step_place m n s x y) absent) ≡ some j ↔ ((r : List ℕ) × Memᴰ r (rows_in l b) × StepRow s x y j r)
      leads = table_leads m n states (rows_in l b) (step_rows few) s x y j (rw em at hx) (rw en at hy)

  -- each row is (s, x, y, j) with x and y below counts that agree
  row_codes : (m' n' : ℕ) → m' ≡ m → n' ≡ n → (r : List ℕ) → Memᴰ r (rows_in l b)
      → (get_or r 1 0 < m') × (get_or r 2 0 < n') × (r ≡ get_or r 0 0 ∷ get_or r 1 0 ∷ get_or r 2 0 ∷ get_or r 3 0 ∷ [])
  row_codes m' n' em en r mr = (rw em (field r mr 1 (omega arith)), rw en (field r mr 2 (omega arith)), four r (row_length l b e r mr ∙ fields))

-- two counts that agree, and two more
pub agreeing : (a b c d : ℕ) → (eqb a b && eqb c d) ≡ true → (a ≡ b) × (c ≡ d)
agreeing a b c d e = let (t, t') = and_yes (eqb a b) (eqb c d) (subst T (sym e) tt) in (eqb→eq a b t, eqb→eq c d t')

-- the I and O of a context and a specification that match, the U and V of a context and a controller
same_outside : (cb sb : List ℕ) → outside_agree cb sb ≡ true
    → (get_or (counts_in context_layout cb) 0 0 ≡ get_or (counts_in specification_layout sb) 0 0) × (get_or (counts_in context_layout cb) 1 0 ≡ get_or (counts_in specification_layout sb) 1 0)
unfolding outside_agree
same_outside cb sb agree = agreeing _ _ _ _ agree

same_letters : (cb tb : List ℕ) → letters_agree cb tb ≡ true
    → (get_or (counts_in context_layout cb) 2 0 ≡ get_or (counts_in controller_layout tb) 0 0) × (get_or (counts_in context_layout cb) 3 0 ≡ get_or (counts_in controller_layout tb) 1 0)
unfolding letters_agree
same_letters cb tb agree = agreeing _ _ _ _ agree

-- where I and O agree: the specification goes from c by i and o to c' exactly if its record has the row
pub specification_row_lem : (cb sb : List ℕ) → fault specification_layout sb ≡ Ok tt → outside_agree cb sb ≡ true
    → (c i o c' : ℕ) → i < (skid_of cb sb).n_i → o < (skid_of cb sb).n_o
    → spec_next (skid_of cb sb) c i o ≡ some c' ↔ Memᴰ (c ∷ i ∷ o ∷ c' ∷ []) (rows_in specification_layout sb)
unfolding skid_of specification_table spec_next specification_layout
specification_row_lem cb sb es agree c i o c' hi ho =
    let (ei, eo) = same_outside cb sb agree in
    let (low, high) = count_within specification_layout sb es 2 (omega arith) in
    table_row specification_layout refl refl refl sb es (omega arith) (get_or (counts_in context_layout cb) 0 0) (get_or (counts_in context_layout cb) 1 0) ei eo c i o c' hi ho

-- and each of its rows is one of the context's i and o
pub specification_codes : (cb sb : List ℕ) → fault specification_layout sb ≡ Ok tt → outside_agree cb sb ≡ true → (r : List ℕ) → Memᴰ r (rows_in specification_layout sb)
    → (get_or r 1 0 < (skid_of cb sb).n_i) × (get_or r 2 0 < (skid_of cb sb).n_o) × (r ≡ get_or r 0 0 ∷ get_or r 1 0 ∷ get_or r 2 0 ∷ get_or r 3 0 ∷ [])
unfolding skid_of specification_layout
specification_codes cb sb es agree =
    let (ei, eo) = same_outside cb sb agree in
    row_codes specification_layout refl refl refl sb es (get_or (counts_in context_layout cb) 0 0) (get_or (counts_in context_layout cb) 1 0) ei eo

-- where U and V agree: the controller goes from s by u and v to s' exactly if its record has the row
pub controller_row_lem : (cb sb tb : List ℕ) → fault controller_layout tb ≡ Ok tt → letters_agree cb tb ≡ true
    → (s u v s' : ℕ) → u < (skid_of cb sb).n_u → v < (skid_of cb sb).n_v
    → there (next_at (skid_of cb sb) (controller_table tb) s (letter_at (skid_of cb sb) u v)) ≡ some s' ↔ Memᴰ (s ∷ u ∷ v ∷ s' ∷ []) (rows_in controller_layout tb)
unfolding skid_of controller_table controller_layout state_limit
controller_row_lem cb sb tb et agree s u v s' hu hv =
    let (eu, ev) = same_letters cb tb agree in
    let (low, high) = count_within controller_layout tb et 2 (omega arith) in
    table_row controller_layout refl refl refl tb et (omega arith) (get_or (counts_in context_layout cb) 2 0) (get_or (counts_in context_layout cb) 3 0) eu ev s u v s' hu hv

-- and each of its rows is one of the context's u and v
pub controller_codes : (cb sb tb : List ℕ) → fault controller_layout tb ≡ Ok tt → letters_agree cb tb ≡ true → (r : List ℕ) → Memᴰ r (rows_in controller_layout tb)
    → (get_or r 1 0 < (skid_of cb sb).n_u) × (get_or r 2 0 < (skid_of cb sb).n_v) × (r ≡ get_or r 0 0 ∷ get_or r 1 0 ∷ get_or r 2 0 ∷ get_or r 3 0 ∷ [])
unfolding skid_of controller_layout
controller_codes cb sb tb et agree =
    let (eu, ev) = same_letters cb tb agree in
    row_codes controller_layout refl refl refl tb et (get_or (counts_in context_layout cb) 2 0) (get_or (counts_in context_layout cb) 3 0) eu ev
