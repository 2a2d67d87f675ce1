-- The test of a state says what the theory says: it passes exactly if "(i) for each u there is a v whose next state is kept, and (ii) for each of its
-- pairs and each i below I there is a context row from a on i whose (u, v) is present and leads to a kept state".
-- Assumes nothing.
use Rattle.std.specs.Prelude.{if◌then◌else◌}
use mathlib.Core.Path.{◌≡◌, refl, sym, ap, subst, ◌∙◌}
use mathlib.Core.Logic.{◌↔◌, ∥∥₁_elim}
use mathlib.Core.Bool.{Bool, true, false, ◌&&◌}
use mathlib.Core.Option.{Option, none, some, IsSome, none-ne-some, some-injective}
use mathlib.Core.List.{List, map}
use Prim.Native.Nat.{ℕ, ◌+◌, ◌*◌, ◌<◌}
use lib.Dec.{T, T_prop, eqb, eqb→eq}
use lib.ListN.{length, get_or}
use mir.Facts.{and_yes, yes_and, yes_eqb}
use Rattle.words.specs.System.{letter}
use Rattle.words.specs.Deletion.{Passes, Finite}
use Rattle.words.proofs.Words.{known, is_some}
use Rattle.words.proofs.Codes.{same_code}
use Rattle.words.proofs.Answer.{numbers, numbers_listed}
use Rattle.pairs.specs.Scans.{all, any, left}
use Rattle.pairs.specs.Sets.{member, pair_place, context_of, specification_of}
use Rattle.pairs.proofs.Lists.{get_d_map, length_left, get_d_left, left_mem, mem_left}
use Rattle.pairs.proofs.Scans.{imp_yes, both_yes, yes_both, all_yes, yes_all, any_yes, yes_any}
use Rattle.pairs.proofs.Sets.{pair_context, pair_specification}
use Rattle.rules.specs.NextTables.{there, is_present}
use Rattle.rules.specs.Tables.{Skid, row_state, row_i, row_next, letter_at, row_letter, next_at, pairs}
use Rattle.rules.specs.Discover.{Numbered}
use Rattle.rules.specs.FirstDiscovery.{Discovery}
use Rattle.rules.specs.Continues.{answers, continues_on, continues}
use Rattle.rules.specs.Meaning.{NextTable, Legal, system, table_step}
use Rattle.rules.proofs.Places.{pair_listed, at_pair}
use Rattle.rules.proofs.Rows.{entry_below, step_row, action, row_context}
use Rattle.answers.specs.Plain.{start_set}
use Rattle.answers.specs.Rounds.{is_kept}
use Rattle.answers.specs.Unblocked.{kept_step, leads_on, passes}
use Rattle.answers.proofs.Plain.{set_steps}
use Rattle.promises.proofs.Automaton.{automaton}

-- `if a then b else true` is the implication
yes_imp : (a b : Bool) → (T a → T b) → T (if a then b else true)
yes_imp true b h = h tt
yes_imp false b h = tt

-- a step is present among the kept ones exactly if its state is kept
present_if : (b : Bool) (j : ℕ) → is_present (if b then some j else none) ≡ b
present_if true j = refl
present_if false j = refl

-- what κ keeps of n states, as a list
abbrev pub kept_list : ℕ → (ℕ → Bool) → List Bool
kept_list n κ = map κ (left 0 n)

pub list_same : (n : ℕ) (κ : ℕ → Bool) (q : ℕ) → q < n → is_kept (kept_list n κ) q ≡ κ q
list_same n κ q h = get_d_map κ (left 0 n) q false 0 (rw length_left h) ∙ ap κ (get_d_left n q 0 h)

module _ (k : Skid) (asked : ℕ → ℕ → Bool) (legal : Legal k) (d : Numbered)
    (found : Discovery (set_steps k) (start_set k) (k.n_u * k.n_v) d) (table : NextTable (length d.states) d.next) where
  abbrev n : ℕ
  n = length d.states

  abbrev set : ℕ → ℕ
  set q = get_or d.states q 0

  -- the states that the list keeps are those that κ keeps
  module _ (kept : List Bool) (κ : ℕ → Bool) (same : (q : ℕ) → q < n → is_kept kept q ≡ κ q) (q : ℕ) where
    -- the letter t of q leads on
    abbrev on : ℕ → Bool
    on = leads_on k d.states d.next kept q

    abbrev On : ℕ → Type 0
    On t = (q' : ℕ) × (there (next_at k d.next q t) ≡ some q') × T (κ q')

    -- an entry is a state of the table, where the list and κ say the same
    on_law : (t : ℕ) → T (on t) ↔ On t
    on_law t = go (there (next_at k d.next q t)) (entry_below n d.next table (q * (k.n_u * k.n_v) + t))
      where
        go : (o : Option ℕ) → ((j : ℕ) → o ≡ some j → j < n) → T (is_present (kept_step kept o)) ↔ ((q' : ℕ) × (o ≡ some q') × T (κ q'))
        go none below = (λ t. absurd t, λ h. absurd (none-ne-some h.0 h.1))
        go (some j) below =
            let e : is_present (if is_kept kept j then some j else none) ≡ κ j = present_if (is_kept kept j) j ∙ same j (below j refl) in (
              λ t. (j, refl, subst T e t),
              λ h. subst T (sym e) (subst (λ j. T (κ j)) (sym (some-injective j h.0 h.1)) h.2),
            )

    -- (i), of one u
    abbrev replied : ℕ → Bool
    replied u = any (λ v. on (letter_at k u v)) (left 0 k.n_v)

    abbrev Replies : (system k asked).U → Type 0
    Replies u = (r : (system k asked).R) × (q' : ℕ) × (table_step k asked d.next q (u, r) ≡ some q') × T (κ q')

    reply_law : (u : (system k asked).U) → T (replied u.0) ↔ Replies u
    reply_law u = (
      λ t. let (v, m, h) = any_yes (λ v. on (letter_at k u.0 v)) (left 0 k.n_v) t in
          let (q', e, h') = (on_law (letter_at k u.0 v)).0 h in
          ((v, mem_left k.n_v v m), q', e, h'),
      λ s. let (r, q', e, h) = s in yes_any (λ v. on (letter_at k u.0 v)) (left 0 k.n_v) r.0 (left_mem k.n_v r.0 r.1) ((on_law (letter_at k u.0 r.0)).1 (q', e, h)),
    )

    -- (ii), of one context state and one i
    abbrev Continues : ℕ → (system k asked).Input → Type 0
    Continues a i = (x : (system k asked).Step) × (q' : ℕ) × (x.0.0 ≡ i) × IsSome ((system k asked).ctx a x)
        × (table_step k asked d.next q (letter (system k asked) x) ≡ some q') × T (κ q')

    continue_law : (a : ℕ) (i : (system k asked).Input) → T (continues_on k on a i.0) ↔ Continues a i
    unfolding continues_on
    continue_law a i = (
      λ t. let (r, m, t₁) = any_yes on_row k.context t in
          let (t₂, t₃) = and_yes (eqb (row_state r) a && eqb (row_i r) i.0) (on (row_letter k r)) t₁ in
          let (t₄, t₅) = and_yes (eqb (row_state r) a) (eqb (row_i r) i.0) t₂ in
          let (q', e, h) = (on_law (row_letter k r)).0 t₃ in (
            action k legal asked r m,
            q',
            same_code {a = (row_i r, (legal.context_rows_lem r m).i_below)} {b = i} (eqb→eq (row_i r) i.0 t₅),
            is_some {t = row_next r} (row_context k legal asked a r m (eqb→eq (row_state r) a t₄)),
            e,
            h,
          ),
      λ g. let (x, q', ei, ha, e, h) = g in
          let (a', ea) = known ((system k asked).ctx a x) ha in
          let (r, m, y, _) = step_row k.context a x.0.0.0 x.1.1.0 x.1.0.0 x.0.1.0 a' ea in
          yes_any on_row k.context r m
          (yes_and (eqb (row_state r) a && eqb (row_i r) i.0) (on (row_letter k r))
          (yes_and (eqb (row_state r) a) (eqb (row_i r) i.0) (yes_eqb y.same_state) (yes_eqb (y.same_i ∙ ap (λ b. b.0) ei)))
          (rw (y.same_u, y.same_v) ((on_law (letter_at k x.1.0.0 x.1.1.0)).1 (q', e, h)))),
    )
      where
        on_row : List ℕ → Bool
        on_row r = eqb (row_state r) a && eqb (row_i r) i.0 && on (row_letter k r)

    -- (ii), of the pair at place p: one i, and all of it
    abbrev on_input : ℕ → ℕ → Bool
    on_input p i = if asked (specification_of k.n_c p) i then continues_on k on (context_of k.n_c p) i else true

    abbrev on_pair : ℕ → Bool
    on_pair p = if member p (set q) then continues k on asked p else true

    -- the test tells what the theory asks, whichever list says what is kept
    pub passes_law : T (passes k d.states d.next asked kept q) ↔ Passes (system k asked) (automaton k asked legal d found table) κ q
    unfolding passes answers continues
    passes_law = (
      λ t. let (t₁, t₂) = both_yes (answers k on) (all on_pair (pairs k)) t in
          record {
            replies = λ u. ∣ (reply_law u).0 (all_yes replied (left 0 k.n_u) t₁ u.0 (left_mem k.n_u u.0 u.1)) ∣₁;
            continues = λ a c mem i want.
                let p : ℕ = pair_place k.n_c a c in
                let t₃ = imp_yes (member p (set q)) (continues k on asked p) (all_yes on_pair (pairs k) t₂ p (pair_listed k a c mem.0 mem.1)) mem.2 in
                let t₄ = imp_yes (asked (specification_of k.n_c p) i.0) (continues_on k on (context_of k.n_c p) i.0)
                (all_yes (on_input p) (left 0 k.n_i) t₃ i.0 (left_mem k.n_i i.0 i.1))
                (subst (λ c. T (asked c i.0)) (sym (pair_specification k.n_c a c mem.1)) want) in
                ∣ (continue_law a i).0 (subst (λ a. T (continues_on k on a i.0)) (pair_context k.n_c a c mem.1) t₄) ∣₁;
          },
      λ h. yes_both (answers k on) (all on_pair (pairs k))
          (yes_all replied (left 0 k.n_u) λ u mu.
          ∥∥₁_elim (h.replies (u, mem_left k.n_u u mu)) (T_prop (replied u)) (reply_law (u, mem_left k.n_u u mu)).1)
          (yes_all on_pair (pairs k) λ p mp.
          yes_imp (member p (set q)) (continues k on asked p) λ mem.
          yes_all (on_input p) (left 0 k.n_i) λ i mi.
          yes_imp (asked (specification_of k.n_c p) i) (continues_on k on (context_of k.n_c p) i) λ want.
          ∥∥₁_elim (h.continues (context_of k.n_c p) (specification_of k.n_c p) (at_pair k legal (set q) p mp mem) (i, mem_left k.n_i i mi) want)
          (T_prop (continues_on k on (context_of k.n_c p) i)) (continue_law (context_of k.n_c p) (i, mem_left k.n_i i mi)).1),
    )

  -- the states are the numbers below their count, and the test decides which pass
  unfoldable pub finite : Finite (system k asked) (automaton k asked legal d found table)
  finite = record {
    states = numbers (length d.states);
    listed = numbers_listed (length d.states);
    pass = λ κ. passes k d.states d.next asked (kept_list (length d.states) κ);
    pass_law = λ κ q _. passes_law (kept_list (length d.states) κ) κ (list_same (length d.states) κ) q;
  }
