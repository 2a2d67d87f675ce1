-- The states reached by a controller's own rows are those that its words lead to. The check finds it incomplete exactly if one of them "has no
-- row for some u".
-- Assumes nothing.
use mathlib.Core.Path.{◌≡◌, sym, subst}
use mathlib.Core.Logic.{◌↔◌, ∥∥₁_elim}
use mathlib.Core.HLevel.{⊥_prop}
use mathlib.Core.Bool.{Bool, false}
use mathlib.Core.Option.{Option, some, IsSome}
use mathlib.Core.List.Memᴰ
use mathlib.Core.List.{List, map, Memᴰ}
use Prim.Native.Nat.{ℕ, ◌+◌, ◌*◌, ◌<◌}
use lib.Dec.{T, T_not, not_T}
use Rattle.words.specs.Words.{run}
use Rattle.words.specs.System.{Letter}
use Rattle.words.specs.Fit.{Complete}
use Rattle.words.proofs.Words.{known, is_some}
use Rattle.words.proofs.Count.{stable}
use Rattle.words.proofs.Faulty.{Lacking}
use Rattle.pairs.specs.Scans.{all, any, left}
use Rattle.pairs.proofs.Scans.{all_yes, not_all, any_yes, yes_any}
use Rattle.pairs.proofs.Lists.{mem_at, at_mem, left_mem, mem_left}
use Rattle.rules.specs.NextTables.{there}
use Rattle.rules.specs.Tables.{Skid, letter_at, letters, next_at}
use Rattle.rules.specs.Discover.{discover}
use Rattle.rules.specs.Reached.{Reaches}
use Rattle.rules.specs.Continues.{answers}
use Rattle.rules.specs.Meaning.{NextTable, system, letter_of, table_step}
use Rattle.rules.proofs.Numbering.{Each}
use Rattle.rules.proofs.Discover.{never_over}
use Rattle.rules.proofs.Reached.{only_reached, all_reached}
use Rattle.rules.proofs.Rows.{has_there, there_has, steps_below}
use Rattle.rules.proofs.ReachedWords.{reached_word, word_reached}
use Rattle.verdicts.specs.Triples.{has}
use Rattle.verdicts.specs.Verdict.{own_states, incomplete}

module _ (k : Skid) (asked : ℕ → ℕ → Bool) (states : ℕ) (next : List ℕ) where
  abbrev step : ℕ → Letter (system k asked) → Option ℕ
  step = table_step k asked next

  -- the steps of a state, letter by letter
  abbrev out : ℕ → List (Option ℕ)
  out d = map (λ t. there (next_at k next d t)) (letters k)

  -- a row for u: some letter (u, v) of the table
  reply_law : (d : ℕ) (u : (system k asked).U) → T (any (λ v. has k next d (letter_at k u.0 v)) (left 0 k.n_v)) ↔ ((r : (system k asked).R) × IsSome (step d (u, r)))
  reply_law d u = (
    λ t. let (v, m, h) = any_yes (λ v. has k next d (letter_at k u.0 v)) (left 0 k.n_v) t in
        ((v, mem_left k.n_v v m), is_some (has_there (next_at k next d (letter_at k u.0 v)) h)),
    λ s. let (r, h) = s in
        let (d', e) = known (step d (u, r)) h in
        yes_any (λ v. has k next d (letter_at k u.0 v)) (left 0 k.n_v) r.0 (left_mem k.n_v r.0 r.1) (there_has (next_at k next d (letter_of k asked (u, r))) d' e).0,
  )

  module _ (table : NextTable states next) where
    in_table : (x : ℕ) → x < states → (o : Option ℕ) → Memᴰ o (out x) → Each (λ d. d < states) o
    in_table x h = steps_below states next table (λ t. x * (k.n_u * k.n_v) + t) (letters k)

    -- the table's states are below their count, so never one too many
    not_over : (discover states out 0).over ≡ false
    not_over = never_over states 0 out (λ d. d < states) table.occupied table.occupied in_table (λ x h. h)

    -- "a state reached by its own rows": exactly the states that the table's words lead to
    pub own_exactly : (d : ℕ) → Memᴰ d (own_states k states next) ↔ ((w : List (Letter (system k asked))) × (run (table_step k asked next) 0 w ≡ some d))
    unfolding own_states
    own_exactly d = (
      λ m. let (i, h, e) = mem_at 0 m in reached_word k asked (λ d t. there (next_at k next d t)) 0 d (subst (Reaches out 0) e (only_reached states 0 out table.occupied i h)),
      λ s. let (w, e) = s in
          let (i, h, e') = all_reached states 0 out table.occupied not_over d (word_reached k asked (λ d t. there (next_at k next d t)) 0 w d e) in
          Memᴰ.cast (sym e') (at_mem (discover states out 0).states i 0 h),
    )

    -- each of them has a row for each u, where the check finds them so
    all_reply : T (all (λ d. answers k (has k next d)) (own_states k states next)) → (w : List (Letter (system k asked))) (d : ℕ) → run step 0 w ≡ some d
        → (u : (system k asked).U) → (r : (system k asked).R) × IsSome (step d (u, r))
    unfolding answers
    all_reply t w d e u = (reply_law d u).0
        (all_yes (λ u. any (λ v. has k next d (letter_at k u v)) (left 0 k.n_v)) (left 0 k.n_u)
        (all_yes (λ d. answers k (has k next d)) (own_states k states next) t d ((own_exactly d).1 (w, e))) u.0 (left_mem k.n_u u.0 u.1))

    -- "incomplete if a state reached by its own rows has no row for some u"
    pub incomplete_law : T (incomplete k states next) ↔ Lacking (system k asked) (table_step k asked next) 0
    unfolding incomplete answers
    incomplete_law = (
      λ t. let (d, md, t₁) = not_all (λ d. answers k (has k next d)) (own_states k states next) t in
          let (u, mu, t₂) = not_all (λ u. any (λ v. has k next d (letter_at k u v)) (left 0 k.n_v)) (left 0 k.n_u) t₁ in
          let (w, e) = (own_exactly d).0 md in
          let h : u < k.n_u = mem_left k.n_u u mu in
          record {
            word = w;
            d = d;
            reached = e;
            u = (u, h);
            no_row = λ r s. T_not (any (λ v. has k next d (letter_at k u v)) (left 0 k.n_v)) t₂ ((reply_law d (u, h)).1 (r, s));
          },
      λ l. not_T (all (λ d. answers k (has k next d)) (own_states k states next)) (λ t. let (r, s) = all_reply t l.word l.d l.reached l.u in l.no_row r s),
    )

    -- the controller is complete, as the theory has it, exactly if the check does not find it incomplete
    pub complete_law : (¬ T (incomplete k states next)) ↔ Complete (system k asked) (table_step k asked next) 0
    unfolding incomplete
    complete_law = (
      λ h w d e u. ∣ all_reply (stable (all (λ d. answers k (has k next d)) (own_states k states next)) (λ n. h (not_T (all (λ d. answers k (has k next d)) (own_states k states next)) n))) w d e u ∣₁,
      λ f t. let l = incomplete_law.0 t in ∥∥₁_elim (f l.word l.d l.reached l.u) ⊥_prop (λ r. l.no_row r.0 r.1),
    )
