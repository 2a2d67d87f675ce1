-- The context's rows are the steps of the system; the specification and a controller go by their next tables to states of theirs.
-- Assumes nothing.
use Rattle.std.specs.Prelude.{if◌then◌else◌}
use mathlib.Core.Path.{◌≡◌, refl, sym, ap, subst, ◌∙◌}
use mathlib.Core.Logic.{⊎_elim}
use mathlib.Core.Bool.{Bool, true, false}
use mathlib.Core.Option.{Option, none, some, none-ne-some, some-injective}
use mathlib.Core.List.Memᴰ
use mathlib.Core.List.{List, [], map, Memᴰ}
use Prim.Native.Nat.{ℕ, ◌<◌}
use native.Mathlib.Omega.{arith}
use lib.Dec.{T, ltb, eqb, eqb→eq, eqb_refl}
use lib.ListN.{length, get_or}
use borrow.Author.Tests.{ltb-true, lt-ltb}
use mir.Facts.{and_yes, yes_and}
use Rattle.pairs.specs.Scans.{first_place}
use Rattle.pairs.proofs.Lists.{place_at, place_first, mem_at, at_mem}
use Rattle.rules.specs.Limits.{absent}
use Rattle.rules.specs.NextTables.{there, is_present}
use Rattle.rules.specs.Tables.{Skid, row_state, row_i, row_v, row_u, row_o, row_next, has_key, row_number, context_next, spec_next}
use Rattle.rules.specs.Meaning.{NextTable, Keyed, Legal, system}
use Rattle.rules.proofs.Numbering.{Each}

key_yes : (a i v u o : ℕ) (r : List ℕ) → T (has_key a i v u o r) → Keyed a i v u o r
key_yes a i v u o r t =
    let (t₁, s₁) = and_yes (eqb (row_state r) a) _ t in
    let (t₂, s₂) = and_yes (eqb (row_i r) i) _ s₁ in
    let (t₃, s₃) = and_yes (eqb (row_v r) v) _ s₂ in
    let (t₄, t₅) = and_yes (eqb (row_u r) u) (eqb (row_o r) o) s₃ in
    record {
      same_state = eqb→eq (row_state r) a t₁;
      same_i = eqb→eq (row_i r) i t₂;
      same_v = eqb→eq (row_v r) v t₃;
      same_u = eqb→eq (row_u r) u t₄;
      same_o = eqb→eq (row_o r) o t₅;
    }

yes_key : (r : List ℕ) → T (has_key (row_state r) (row_i r) (row_v r) (row_u r) (row_o r) r)
yes_key r = yes_and (eqb (row_state r) (row_state r)) _ (eqb_refl (row_state r)) (yes_and (eqb (row_i r) (row_i r)) _ (eqb_refl (row_i r))
    (yes_and (eqb (row_v r) (row_v r)) _ (eqb_refl (row_v r)) (yes_and (eqb (row_u r) (row_u r)) (eqb (row_o r) (row_o r)) (eqb_refl (row_u r)) (eqb_refl (row_o r)))))

yes_true : (b : Bool) → T b → b ≡ true
yes_true true t = refl
yes_true false t = absurd t

-- the row of that number, where there is one
pub row_there : (rows : List (List ℕ)) (a i v u o : ℕ) → row_number rows a i v u o < length rows → Keyed a i v u o (get_or rows (row_number rows a i v u o) [])
unfolding row_number
row_there rows a i v u o h = key_yes a i v u o (get_or rows (first_place (has_key a i v u o) rows) []) (subst T (sym (place_at (has_key a i v u o) rows [] h)) tt)

row_listed : (rows : List (List ℕ)) (r : List ℕ) → Memᴰ r rows → row_number rows (row_state r) (row_i r) (row_v r) (row_u r) (row_o r) < length rows
unfolding row_number
row_listed rows r m =
    let (j, h, e) = mem_at [] m in
    let f = place_first (has_key (row_state r) (row_i r) (row_v r) (row_u r) (row_o r)) rows [] j h (ap (has_key (row_state r) (row_i r) (row_v r) (row_u r) (row_o r)) e ∙ yes_true _ (yes_key r)) in
    omega arith

-- a step of the context is a row of it
pub step_row : (rows : List (List ℕ)) (a i v u o a' : ℕ) → context_next rows a i v u o ≡ some a'
    → (r : List ℕ) × Memᴰ r rows × Keyed a i v u o r × (row_next r ≡ a')
unfolding context_next
step_row rows a i v u o a' e = go (ltb n (length rows)) refl e
  where
    n : ℕ
    n = row_number rows a i v u o

    go : (b : Bool) → ltb n (length rows) ≡ b → (if b then some (row_next (get_or rows n [])) else none) ≡ some a'
        → (r : List ℕ) × Memᴰ r rows × Keyed a i v u o r × (row_next r ≡ a')
    go true t e =
        let h : n < length rows = ltb-true n (length rows) t in
        (get_or rows n [], at_mem rows n [] h, row_there rows a i v u o h, some-injective (row_next (get_or rows n [])) a' e)
    go false t e = absurd (none-ne-some a' e)

-- an entry of a next table that is present is the state itself
pub has_there : (j : ℕ) → T (is_present (there j)) → there j ≡ some j
has_there j = go (eqb j absent)
  where
    go : (b : Bool) → T (is_present (if b then none else some j)) → (if b then none else some j) ≡ some j
    go true t = absurd t
    go false t = refl

pub there_has : (j j' : ℕ) → there j ≡ some j' → T (is_present (there j)) × (j ≡ j')
there_has j j' = go (eqb j absent)
  where
    go : (b : Bool) → (if b then none else some j) ≡ some j' → T (is_present (if b then none else some j)) × (j ≡ j')
    go true e = absurd (none-ne-some j' e)
    go false e = (tt, some-injective j j' e)

-- a next table leads to one of its states
pub entry_below : (states : ℕ) (next : List ℕ) → NextTable states next → (p j : ℕ) → there (get_or next p absent) ≡ some j → j < states
entry_below states next table p j e = ⊎_elim
    (λ a. absurd (none-ne-some j (sym (ap there a) ∙ e)))
    (λ h. subst (λ n. n < states) (there_has (get_or next p absent) j e).1 h)
    (table.entry p)

-- so each step of a state leads to a state of the table; `place t`: where the step t stands
pub steps_below : (states : ℕ) (next : List ℕ) → NextTable states next → (place : ℕ → ℕ) (ts : List ℕ) (o : Option ℕ)
    → Memᴰ o (map (λ t. there (get_or next (place t) absent)) ts) → Each (λ j. j < states) o
steps_below states next table place ts none m = tt
steps_below states next table place ts (some j) m =
    let (t, _, e) = Memᴰ.of_map (λ t. there (get_or next (place t) absent)) ts m in
    entry_below states next table (place t) j e

module _ (k : Skid) (legal : Legal k) where
  -- a row of the context is a step of it
  pub row_step : (r : List ℕ) → Memᴰ r k.context → context_next k.context (row_state r) (row_i r) (row_v r) (row_u r) (row_o r) ≡ some (row_next r)
  unfolding context_next
  row_step r m =
      let h = row_listed k.context r m in
      rw (lt-ltb _ (length k.context) h)
      (ap some (sym (legal.one_next r _ m (at_mem k.context _ [] h) (row_there k.context (row_state r) (row_i r) (row_v r) (row_u r) (row_o r) h))))

  -- the specification goes to one of its states
  pub spec_below : (c i o c' : ℕ) → spec_next k c i o ≡ some c' → c' < k.n_c
  unfolding spec_next
  spec_below c i o c' e = entry_below k.n_c k.specification legal.specification_table_lem _ c' e

  -- a row of the context as a step of the system, and that it is one from its state
  abbrev pub action : (asked : ℕ → ℕ → Bool) (r : List ℕ) → Memᴰ r k.context → (system k asked).Step
  action asked r m = let row = legal.context_rows_lem r m in (((row_i r, row.i_below), (row_o r, row.o_below)), ((row_u r, row.u_below), (row_v r, row.v_below)))

  pub row_context : (asked : ℕ → ℕ → Bool) (a : ℕ) (r : List ℕ) (m : Memᴰ r k.context) → row_state r ≡ a → (system k asked).ctx a (action asked r m) ≡ some (row_next r)
  row_context asked a r m e = subst (λ a. context_next k.context a (row_i r) (row_v r) (row_u r) (row_o r) ≡ some (row_next r)) e (row_step r m)
