-- Where the rows' fields are below their counts and rows with one key have one next, their next table leads from a state by a step exactly
-- where a row does.
-- Assumes nothing.
use mathlib.Core.Path.{◌≡◌, refl, sym, ap, subst, ◌∙◌}
use mathlib.Core.Logic.{◌↔◌, ◌⊎◌, inl, inr, ⊎_elim}
use mathlib.Core.Option.{some, none-ne-some}
use mathlib.Core.List.Memᴰ
use mathlib.Core.List.{List, [], ◌∷◌, Memᴰ}
use Prim.Native.Nat.{ℕ, zero, suc, ◌*◌, ◌≤◌, ◌<◌}
use native.Mathlib.Omega.{arith}
use lib.ListN.{length, get_or, set, replicate, length-set, length-replicate}
use lib.Seq.{get_or-set_same}
use borrow.Author.Tests.{ne_eqb}
use Rattle.pairs.specs.Sets.{pair_place, context_of, specification_of}
use Rattle.pairs.proofs.Lists.{part_below}
use Rattle.pairs.proofs.Sets.{pair_context, pair_specification}
use Rattle.rules.specs.Limits.{absent}
use Rattle.rules.specs.NextTables.{step_place, there, table_of}
use Rattle.rules.proofs.Rows.{there_has}
use Rattle.rules.proofs.NextTables.{entered, row_place, get_d_replicate_same}

-- a place after one is set: as it was, or the one that was set
set_cases : (l : List ℕ) (i v p : ℕ) → (get_or (set l i v) p absent ≡ get_or l p absent) ⊎ ((i ≡ p) × (get_or (set l i v) p absent ≡ v))
set_cases [] i v p = inl refl
set_cases (x ∷ l) zero v zero = inr (refl, refl)
set_cases (x ∷ l) zero v (suc p) = inl refl
set_cases (x ∷ l) (suc i) v zero = inl refl
set_cases (x ∷ l) (suc i) v (suc p) = ⊎_elim inl (λ h. inr (ap suc h.0, h.1)) (set_cases l i v p)

module _ (at : List ℕ → ℕ) where
  -- an entry is as it was, or the next of a row
  Entered : List (List ℕ) → ℕ → ℕ → ℕ → Type 0
  Entered rows p old j = (j ≡ old) ⊎ ((r : List ℕ) × Memᴰ r rows × (at r ≡ p) × (j ≡ get_or r 3 0))

  entered_cases : (rows : List (List ℕ)) (acc : List ℕ) (p : ℕ) → Entered rows p (get_or acc p absent) (get_or (entered at acc rows) p absent)
  unfolding Entered
  entered_cases [] acc p = inl refl
  entered_cases (r ∷ rows) acc p = ⊎_elim
      (λ e. ⊎_elim (λ e'. inl (e ∙ e')) (λ h. inr (r, Memᴰ.head refl, h.0, e ∙ h.1)) (set_cases acc (at r) (get_or r 3 0) p))
      (λ h. inr (h.0, Memᴰ.tail h.1, h.2, h.3))
      (entered_cases rows (set acc (at r) (get_or r 3 0)) p)

  -- a row's next stands at its place, where rows of one place have one next
  entered_row : (rows : List (List ℕ)) (acc r : List ℕ) → Memᴰ r rows → at r < length acc → ((r' : List ℕ) → Memᴰ r' rows → at r' ≡ at r → get_or r' 3 0 ≡ get_or r 3 0)
      → get_or (entered at acc rows) (at r) absent ≡ get_or r 3 0
  unfolding Entered
  entered_row [] acc r m h one = absurd (Memᴰ.not-nil m)
  entered_row (x ∷ rows) acc r (Memᴰ.head e) h one = ⊎_elim
      (λ e'. e' ∙ ap (λ y. get_or (set acc (at y) (get_or y 3 0)) (at r) absent) (sym e) ∙ get_or-set_same acc (at r) (get_or r 3 0) absent h)
      (λ y. y.3 ∙ one y.0 (Memᴰ.tail y.1) y.2)
      (entered_cases rows (set acc (at x) (get_or x 3 0)) (at r))
  entered_row (x ∷ rows) acc r (Memᴰ.tail m) h one =
      entered_row rows (set acc (at x) (get_or x 3 0)) r m (rw length-set h) (λ r' m'. one r' (Memᴰ.tail m'))

-- the row is (s, x, y, j)
pub record StepRow (s x y j : ℕ) (r : List ℕ) : Type 0 where
  pub same_state : get_or r 0 0 ≡ s
  pub same_x : get_or r 1 0 ≡ x
  pub same_y : get_or r 2 0 ≡ y
  pub same_next : get_or r 3 0 ≡ j

-- a place is of one step of one state
place_step : (m n s x y s' x' y' : ℕ) → x < m → y < n → x' < m → y' < n → step_place m n s x y ≡ step_place m n s' x' y' → (s ≡ s') × (x ≡ x') × (y ≡ y')
place_step m n s x y s' x' y' hx hy hx' hy' e =
    let t : pair_place n x y < m * n = part_below n m x y hx hy in
    let t' : pair_place n x' y' < m * n = part_below n m x' y' hx' hy' in
    let e₁ : pair_place n x y ≡ pair_place n x' y' = sym (pair_specification (m * n) s (pair_place n x y) t) ∙ ap (specification_of (m * n)) e ∙ pair_specification (m * n) s' (pair_place n x' y') t' in (
      sym (pair_context (m * n) s (pair_place n x y) t) ∙ ap (context_of (m * n)) e ∙ pair_context (m * n) s' (pair_place n x' y') t',
      sym (pair_context n x y hy) ∙ ap (context_of n) e₁ ∙ pair_context n x' y' hy',
      sym (pair_specification n x y hy) ∙ ap (specification_of n) e₁ ∙ pair_specification n x' y' hy',
    )

-- and lies in the table
pub place_below : (m n states s x y : ℕ) → s < states → x < m → y < n → step_place m n s x y < states * (m * n)
place_below m n states s x y hs hx hy = part_below (m * n) states s (pair_place n x y) hs (part_below n m x y hx hy)

module _ (m n states : ℕ) (rows : List (List ℕ)) where
  -- the rows' fields are below their counts, and rows with one key have one next
  pub record StepRows : Type 0 where
    pub few : states ≤ absent
    pub state_below : (r : List ℕ) → Memᴰ r rows → get_or r 0 0 < states
    pub x_below : (r : List ℕ) → Memᴰ r rows → get_or r 1 0 < m
    pub y_below : (r : List ℕ) → Memᴰ r rows → get_or r 2 0 < n
    pub next_below : (r : List ℕ) → Memᴰ r rows → get_or r 3 0 < states
    pub one_next : (r r' : List ℕ) (j : ℕ) → Memᴰ r rows → Memᴰ r' rows → StepRow (get_or r 0 0) (get_or r 1 0) (get_or r 2 0) j r' → j ≡ get_or r 3 0

  module _ (sound : StepRows) where
    -- rows of one place have one key
    place_row_lem : (r : List ℕ) → Memᴰ r rows → (s x y : ℕ) → x < m → y < n → row_place m n r ≡ step_place m n s x y → StepRow s x y (get_or r 3 0) r
    place_row_lem r mr s x y hx hy e =
        let (es, ex, ey) = place_step m n (get_or r 0 0) (get_or r 1 0) (get_or r 2 0) s x y (sound.x_below r mr) (sound.y_below r mr) hx hy e in
        record { same_state = es; same_x = ex; same_y = ey; same_next = refl }

    -- the table leads from s by (x, y) to j exactly if a row does
    pub table_leads : (s x y j : ℕ) → x < m → y < n → there (get_or (table_of m n states rows) (step_place m n s x y) absent) ≡ some j ↔ ((r : List ℕ) × Memᴰ r rows × StepRow s x y j r)
    unfolding table_of Entered
    table_leads s x y j hx hy = (to, from)
      where
        start : List ℕ
        start = replicate (states * (m * n)) absent

        to : there (get_or (entered (row_place m n) start rows) (step_place m n s x y) absent) ≡ some j → (r : List ℕ) × Memᴰ r rows × StepRow s x y j r
        to e =
            let (t, same) = there_has (get_or (entered (row_place m n) start rows) (step_place m n s x y) absent) j e in
            ⊎_elim
            (λ a. absurd (none-ne-some j (sym (ap there (a ∙ get_d_replicate_same (states * (m * n)) (step_place m n s x y) absent)) ∙ e)))
            (λ h. let (r, mr, at, next) = h in (r, mr, subst (λ j. StepRow s x y j r) (sym next ∙ same) (place_row_lem r mr s x y hx hy at)))
            (entered_cases (row_place m n) rows start (step_place m n s x y))

        from : ((r : List ℕ) × Memᴰ r rows × StepRow s x y j r) → there (get_or (entered (row_place m n) start rows) (step_place m n s x y) absent) ≡ some j
        from (r, mr, row) =
            let place : step_place m n s x y ≡ row_place m n r = rw (row.same_state, row.same_x, row.same_y) in
            let below : row_place m n r < length start =
            subst (λ l. row_place m n r < l) (sym (length-replicate (states * (m * n)) absent)) (place_below m n states (get_or r 0 0) (get_or r 1 0) (get_or r 2 0) (sound.state_below r mr) (sound.x_below r mr) (sound.y_below r mr)) in
            let entry : get_or (entered (row_place m n) start rows) (step_place m n s x y) absent ≡ j =
            ap (λ p. get_or (entered (row_place m n) start rows) p absent) place
            ∙ entered_row (row_place m n) rows start r mr below (λ r' m' e. sound.one_next r r' (get_or r' 3 0) mr m' (place_row_lem r' m' (get_or r 0 0) (get_or r 1 0) (get_or r 2 0) (sound.x_below r mr) (sound.y_below r mr) e))
            ∙ row.same_next in
            let few : states ≤ absent = sound.few in
            let next : get_or r 3 0 < states = sound.next_below r mr in
            let same : get_or r 3 0 ≡ j = row.same_next in
            ap there entry ∙ rw (ne_eqb j absent (λ e. absurd (omega arith)))
