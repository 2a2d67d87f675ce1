-- Two tables that number the same states of words, both in the order in which they are met, are one table: each state of the one is named by the state of the
-- other that its words lead to, and names that are met in their order leave one order only.
-- Assumes nothing.
use Rattle.std.specs.Prelude.{if◌then◌else◌}
use mathlib.Core.Path.{◌≡◌, refl, sym, ap, subst, ◌∙◌}
use mathlib.Core.Logic.{◌⊎◌, inl, inr, ⊎_elim}
use mathlib.Core.Bool.{Bool, true, false}
use mathlib.Core.Option.{Option, none, some, none-ne-some, some-injective}
use mathlib.Core.List.{List, [], ◌∷◌, ◌++◌, map, flat_map}
use Prim.Native.Nat.{ℕ, ◌+◌, ◌*◌, ◌<◌}
use lib.Dec.{eqb}
use lib.ListN.{length, get_or, length-map}
use borrow.Author.Tests.{eqb-true}
use Rattle.words.specs.Words.{run}
use Rattle.words.specs.System.{Letter}
use Rattle.words.proofs.Words.{run_last}
use Rattle.pairs.specs.Scans.{left}
use Rattle.pairs.proofs.Lists.{get_d_map, at_mem, length_left, get_d_left, left_mem, mem_left}
use Rattle.rules.specs.Limits.{absent}
use Rattle.rules.specs.NextTables.{there}
use Rattle.rules.specs.Tables.{Skid, letters, next_at}
use Rattle.rules.specs.Reached.{Reaches, Different}
use Rattle.rules.specs.FirstDiscovery.{firsts, targets, Leads}
use Rattle.rules.specs.Meaning.{NextTable, system, letter_of, table_step}
use Rattle.rules.proofs.Numbering.{Led, led_one}
use Rattle.rules.proofs.DiscoveryTable.{steps_led}
use Rattle.rules.proofs.ReadInOrder.{names_met}
use Rattle.rules.proofs.OrderDetermined.{same_states}
use Rattle.rules.proofs.Letters.{letter_at_lem}
use Rattle.rules.proofs.ReachedWords.{word_reached}
use Rattle.rules.proofs.Rows.{there_has}
use Rattle.promises.proofs.SetAutomaton.{chosen}
use Rattle.promises.proofs.TableStates.{run_below}

-- an entry is absent, or a state
absent_or : (j : ℕ) → (j ≡ absent) ⊎ (there j ≡ some j)
absent_or j = go (eqb j absent) refl
  where
    go : (b : Bool) → eqb j absent ≡ b → (j ≡ absent) ⊎ ((if b then none else some j) ≡ some j)
    go true e = inl (eqb-true j absent e)
    go false e = inr refl

module _ (k : Skid) (asked : ℕ → ℕ → Bool) where
  -- a table of so many states, each with a word that leads to it, which are met in the order of their numbers
  pub record Ordered (states : ℕ) (table : List ℕ) : Type 0 where
    pub size : length table ≡ states * (k.n_u * k.n_v)
    pub steps : NextTable states table
    pub words : (q : ℕ) → q < states → (w : List (Letter (system k asked))) × (run (table_step k asked table) 0 w ≡ some q)
    pub in_order : firsts (0 ∷ targets (map there table)) ≡ left 0 states

  -- the second table runs the words of the first, and where words lead to one state of the first, they lead to one state of the second
  pub record Follows (table table' : List ℕ) : Type 0 where
    pub runs : (w : List (Letter (system k asked))) (q : ℕ) → run (table_step k asked table) 0 w ≡ some q → (q' : ℕ) × (run (table_step k asked table') 0 w ≡ some q')
    pub one : (w w' : List (Letter (system k asked))) (q p p' : ℕ) → run (table_step k asked table) 0 w ≡ some q → run (table_step k asked table) 0 w' ≡ some q
        → run (table_step k asked table') 0 w ≡ some p → run (table_step k asked table') 0 w' ≡ some p' → p ≡ p'

  follows_itself : (table : List ℕ) → Follows table table
  follows_itself table = record { runs = λ w q e. (q, e); one = λ w w' q p p' e e' d d'. some-injective p p' (sym d ∙ e ∙ sym e' ∙ d') }

  -- where a word leads
  abbrev LeadsTo : List ℕ → List (Letter (system k asked)) → ℕ → Type 0
  LeadsTo table w q = run (table_step k asked table) 0 w ≡ some q

  -- the steps of a state, one for each letter
  abbrev out : List ℕ → ℕ → List (Option ℕ)
  out table q = map (λ t. there (next_at k table q t)) (letters k)

  step_out : (table : List ℕ) (q t : ℕ) → t < k.n_u * k.n_v → get_or (out table q) t none ≡ there (next_at k table q t)
  unfolding letters
  step_out table q t h = get_d_map (λ t. there (next_at k table q t)) (letters k) t none 0 (rw length_left h) ∙ ap (λ t. there (next_at k table q t)) (get_d_left (k.n_u * k.n_v) t 0 h)

  -- ---- the states of the second table, named by those of the first
  module _ {m : ℕ} {table table' : List ℕ} (y : Ordered m table') (f : Follows table table') (g : Follows table' table) where
    -- a word leads to q in the second table and to p in the first
    abbrev Together : ℕ → ℕ → Type 0
    Together q p = (w : List (Letter (system k asked))) × LeadsTo table' w q × LeadsTo table w p

    -- so no state has two names, and no name two states
    one_name : (q p p' : ℕ) → Together q p → Together q p' → p ≡ p'
    one_name q p p' (w, e, d) (w', e', d') = g.one w w' q p p' e e' d d'

    one_number : (q q' p : ℕ) → Together q p → Together q' p → q ≡ q'
    one_number q q' p (w, e, d) (w', e', d') = f.one w w' p q q' d d' e e'

    -- each state has a name: where its word leads in the first table
    named : (q : ℕ) → q < m → (p : ℕ) × Together q p
    named q h = let (w, e) = y.words q h in let (p, d) = g.runs w q e in (p, (w, e, d))

    names_chosen : (xs : List ℕ) × (length xs ≡ length (left 0 m)) × ((i : ℕ) → i < length (left 0 m) → Together (get_or (left 0 m) i 0) (get_or xs i 0))
    names_chosen = chosen Together 0 0 (left 0 m) (λ i h. named (get_or (left 0 m) i 0) (mem_left m (get_or (left 0 m) i 0) (at_mem (left 0 m) i 0 h)))

    -- the names, in the order of the numbers
    names : List ℕ
    names = names_chosen.0

    how_many : length names ≡ m
    unfolding names
    how_many = names_chosen.1 ∙ length_left m

    named_at : (q : ℕ) → q < m → Together q (get_or names q 0)
    unfolding names
    named_at q h = subst (λ i. Together i (get_or names q 0)) (get_d_left m q 0 h) (names_chosen.2 q (rw length_left h))

    distinct : (i j : ℕ) → i < length names → j < length names → get_or names i 0 ≡ get_or names j 0 → i ≡ j
    distinct i j hi hj e = one_number i j (get_or names j 0) (subst (Together i) e (named_at i (subst (λ l. i < l) how_many hi))) (named_at j (subst (λ l. j < l) how_many hj))

    -- the start is named by the start
    first : get_or names 0 0 ≡ 0
    first = one_name 0 (get_or names 0 0) 0 (named_at 0 y.steps.occupied) ([], refl, refl)

    -- the names are states that steps of the first table reach
    different : Different (Reaches (out table) 0) names
    different = record {
      distinct = distinct;
      each = λ i h. let (w, _, e) = named_at i (subst (λ l. i < l) how_many h) in word_reached k asked (λ s t. there (next_at k table s t)) 0 w (get_or names i 0) e;
    }

    -- a letter more leads to a state and to its name, or to none in both
    entry : (q : ℕ) → q < m → (l : Letter (system k asked)) → Leads names (table_step k asked table (get_or names q 0) l) (next_at k table' q (letter_of k asked l))
    entry q h l = go (table_step k asked table (get_or names q 0) l) refl
      where
        w : List (Letter (system k asked))
        w = (named_at q h).0 ++ (l ∷ [])

        leads : run (table_step k asked table) 0 w ≡ table_step k asked table (get_or names q 0) l
        leads = run_last (table_step k asked table) 0 (named_at q h).0 l (named_at q h).2

        leads' : run (table_step k asked table') 0 w ≡ table_step k asked table' q l
        leads' = run_last (table_step k asked table') 0 (named_at q h).0 l (named_at q h).1

        go : (o : Option ℕ) → table_step k asked table (get_or names q 0) l ≡ o → Leads names o (next_at k table' q (letter_of k asked l))
        go none e = ⊎_elim (λ a. a)
            (λ s. let (p, d) = g.runs w (next_at k table' q (letter_of k asked l)) (leads' ∙ s) in absurd (none-ne-some p (sym e ∙ sym leads ∙ d)))
            (absent_or (next_at k table' q (letter_of k asked l)))
        go (some p) e =
            let (q', d) = f.runs w p (leads ∙ e) in
            let below : q' < m = run_below k asked m table' y.steps w q' d in
            subst (λ j. (j < length names) × (get_or names j 0 ≡ p)) (sym (there_has (next_at k table' q (letter_of k asked l)) q' (sym leads' ∙ d)).1)
            (subst (λ l. q' < l) (sym how_many) below, one_name q' (get_or names q' 0) p (named_at q' below) (w, d, leads ∙ e))

    -- so the second table is that of the steps between the names
    led : Led (flat_map (out table) names) names table'
    unfolding letters
    led = steps_led (out table) (k.n_u * k.n_v) names table' (λ q _. length-map (letters k) (λ t. there (next_at k table q t)) ∙ length_left (k.n_u * k.n_v))
        (y.size ∙ ap (λ l. l * (k.n_u * k.n_v)) (sym how_many)) step
      where
        step : (q t : ℕ) → q < length names → t < k.n_u * k.n_v → Leads names (get_or (out table (get_or names q 0)) t none) (get_or table' (q * (k.n_u * k.n_v) + t) absent)
        step q t h ht =
            let (l, e) = letter_at_lem k asked t (left_mem (k.n_u * k.n_v) t ht) in
            subst (λ o. Leads names o (next_at k table' q t)) (sym (step_out table (get_or names q 0) t ht))
            (subst (λ t. Leads names (there (next_at k table (get_or names q 0) t)) (next_at k table' q t)) e (entry q (subst (λ l. q < l) how_many h) l))

    -- and as it is met in the order of its numbers, the names are met in their order
    names_in_order : names ≡ firsts (0 ∷ targets (flat_map (out table) names))
    names_in_order = names_met (out table) 0 names table' distinct first led (subst (λ l. NextTable l table') (sym how_many) y.steps) (y.in_order ∙ ap (left 0) (sym how_many))

  -- the names that the first table gives to its own states, and those that it gives to the states of the second, are one list
  module _ {n m : ℕ} {table table' : List ℕ} (x : Ordered n table) (y : Ordered m table') (f : Follows table table') (g : Follows table' table) where
    itself : Follows table table
    itself = follows_itself table

    same_names : names x itself itself ≡ names y f g
    same_names = same_states (out table) 0 (names x itself itself) (names y f g) (different x itself itself) (different y f g) (names_in_order x itself itself) (names_in_order y f g)

    pub one_numbering : (n ≡ m) × (table ≡ table')
    one_numbering = (
      sym (how_many x itself itself) ∙ ap length same_names ∙ how_many y f g,
      led_one (flat_map (out table) (names x itself itself)) (names x itself itself) table table' (distinct x itself itself) (led x itself itself)
          (subst (λ xs. Led (flat_map (out table) xs) xs table') (sym same_names) (led y f g)),
    )
