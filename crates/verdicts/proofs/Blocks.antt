-- The check finds that a controller blocks exactly if "some triple has an i with no joint step".
-- Assumes nothing.
use Rattle.std.specs.Prelude.{if◌then◌else◌}
use mathlib.Core.Path.{sym, ap, subst, ◌∙◌}
use mathlib.Core.Logic.{◌↔◌, ◌⊎◌, inl, inr, ⊎_elim, ∥∥₁_elim}
use mathlib.Core.HLevel.{⊥_prop}
use mathlib.Core.Bool.{Bool, true, false, not, ◌&&◌}
use mathlib.Core.List.{List}
use Prim.Native.Nat.{ℕ, ◌<◌}
use lib.Dec.{T, T_not, not_T, eqb, eqb→eq}
use mir.Facts.{and_yes, yes_and, yes_eqb}
use Rattle.words.specs.System.{letter}
use Rattle.words.specs.Fit.{Joins}
use Rattle.words.proofs.Words.{known, is_some}
use Rattle.words.proofs.Faulty.{Goes, Blocked}
use Rattle.words.proofs.Codes.{same_code}
use Rattle.words.proofs.Count.{kept_or_not}
use Rattle.pairs.specs.Scans.{left}
use Rattle.pairs.specs.Sets.{pair_place, context_of, specification_of}
use Rattle.pairs.proofs.Scans.{imp_yes, all_yes, not_all, any_yes, yes_any}
use Rattle.pairs.proofs.Sets.{pair_context, pair_specification}
use Rattle.pairs.proofs.Lists.{left_mem, mem_left}
use Rattle.rules.specs.Tables.{Skid, row_state, row_i, row_next, row_letter, next_at}
use Rattle.rules.specs.Continues.{continues_on, continues}
use Rattle.rules.specs.Meaning.{NextTable, Legal, system, table_step}
use Rattle.rules.proofs.Rows.{has_there, action, row_context}
use Rattle.verdicts.specs.Triples.{has, triples}
use Rattle.verdicts.specs.Verdict.{blocks}
use Rattle.verdicts.proofs.Sweep.{Held}
use Rattle.verdicts.proofs.Rows.{joint_row_lem}
use Rattle.verdicts.proofs.Held.{any_triple_lem}
use Rattle.verdicts.proofs.Triples.{triples_exactly}

not_imp : (a b : Bool) → T (not (if a then b else true)) → T a × (¬ T b)
not_imp true b t = (tt, T_not b t)
not_imp false b t = absurd t

module _ (k : Skid) (asked : ℕ → ℕ → Bool) (states : ℕ) (next : List ℕ) where
  abbrev Steps : ℕ → ℕ → (system k asked).Input → Type 0
  Steps = Goes (system k asked) (table_step k asked next)

  abbrev on : ℕ → ℕ → ℕ → Bool
  on d a i = continues_on k (has k next d) a i

  module _ (legal : Legal k) where
    goes_law : (a c d : ℕ) → c < k.n_c → (i : (system k asked).Input) → T (on d a i.0) ↔ Steps a d i
    unfolding continues_on
    goes_law a c d hc i = (
      λ t. let (r, m, t₁) = any_yes on_row k.context t in
          let (t₂, t₃) = and_yes (eqb (row_state r) a && eqb (row_i r) i.0) (has k next d (row_letter k r)) t₁ in
          let (t₄, t₅) = and_yes (eqb (row_state r) a) (eqb (row_i r) i.0) t₂ in (
            action k legal asked r m,
            same_code {a = (row_i r, (legal.context_rows_lem r m).i_below)} {b = i} (eqb→eq (row_i r) i.0 t₅),
            is_some {t = row_next r} (row_context k legal asked a r m (eqb→eq (row_state r) a t₄)),
            is_some {t = next_at k next d (row_letter k r)} (has_there (next_at k next d (row_letter k r)) t₃),
          ),
      λ g. let (x, e, ha, hd) = g in
          let (a', ea) = known ((system k asked).ctx a x) ha in
          let (d', ed) = known (table_step k asked next d (letter (system k asked) x)) hd in
          let j = joint_row_lem k asked states next a c d x a' d' hc ea ed in
          let (t₁, t₂) = and_yes (eqb (row_state j.row) (context_of k.n_c (pair_place k.n_c a c))) (has k next d (row_letter k j.row)) j.joint in
          yes_any on_row k.context j.row j.is_row
          (yes_and (eqb (row_state j.row) a && eqb (row_i j.row) i.0) (has k next d (row_letter k j.row))
          (yes_and (eqb (row_state j.row) a) (eqb (row_i j.row) i.0) (rw (pair_context k.n_c a c hc) at t₁) (yes_eqb (j.same_i ∙ ap (λ b. b.0) e))) t₂),
    )
      where
        on_row : List ℕ → Bool
        on_row r = eqb (row_state r) a && eqb (row_i r) i.0 && has k next d (row_letter k r)

    goes_or_stuck : (a c d : ℕ) → c < k.n_c → (i : (system k asked).Input) → Steps a d i ⊎ (¬ Steps a d i)
    goes_or_stuck a c d hc i = ⊎_elim (λ t. inl ((goes_law a c d hc i).0 t)) (λ f. inr (λ g. f ((goes_law a c d hc i).1 g))) (kept_or_not (on d a i.0))

    abbrev on_input : ℕ → ℕ → ℕ → Bool
    on_input d p i = if asked (specification_of k.n_c p) i then on d (context_of k.n_c p) i else true

    pub blocks_law : (sets : List ℕ) → T (blocks k states next asked sets) ↔ Blocked (system k asked) (table_step k asked next) (Held k states sets)
    unfolding blocks continues
    blocks_law sets = (
      λ t. let (a, c, d, h, t₁) = (any_triple_lem k legal states next sets (λ s p. not (continues k (has k next s) asked p))).0 t in
          let (i, mi, t₂) = not_all (on_input d (pair_place k.n_c a c)) (left 0 k.n_i) t₁ in
          let (want, stuck) = not_imp (asked (specification_of k.n_c (pair_place k.n_c a c)) i) (on d (context_of k.n_c (pair_place k.n_c a c)) i) t₂ in
          record {
            a = a;
            c = c;
            d = d;
            i = (i, mem_left k.n_i i mi);
            from = h;
            wanted = subst (λ c. T (asked c i)) (pair_specification k.n_c a c h.1.1) want;
            stuck = λ g. stuck (subst (λ a. T (on d a i)) (sym (pair_context k.n_c a c h.1.1)) ((goes_law a c d h.1.1 (i, mem_left k.n_i i mi)).1 g));
          },
      λ b. let hc : b.c < k.n_c = b.from.1.1 in
          (any_triple_lem k legal states next sets (λ s p. not (continues k (has k next s) asked p))).1 (
            b.a,
            b.c,
            b.d,
            b.from,
            not_T (continues k (has k next b.d) asked (pair_place k.n_c b.a b.c)) (λ t. b.stuck ((goes_law b.a b.c b.d hc b.i).0
                (subst (λ a. T (on b.d a b.i.0)) (pair_context k.n_c b.a b.c hc)
                (imp_yes (asked (specification_of k.n_c (pair_place k.n_c b.a b.c)) b.i.0) (on b.d (context_of k.n_c (pair_place k.n_c b.a b.c)) b.i.0)
                (all_yes (on_input b.d (pair_place k.n_c b.a b.c)) (left 0 k.n_i) t b.i.0 (left_mem k.n_i b.i.0 b.i.1))
                (subst (λ c. T (asked c b.i.0)) (sym (pair_specification k.n_c b.a b.c hc)) b.wanted))))),
          ),
    )

    -- the controller joins, as the theory has it, exactly if the check does not find that it blocks
    pub joins_law : NextTable states next → Joins (system k asked) (table_step k asked next) 0 ↔ (¬ T (blocks k states next asked (triples k states next)))
    joins_law table = (
      λ f t. let b = (blocks_law (triples k states next)).0 t in
          ∥∥₁_elim (f b.a b.c b.d ((triples_exactly k asked legal states next table b.a b.c b.d).0 b.from) b.i b.wanted) ⊥_prop b.stuck,
      λ h a c d t i want.
          let held = (triples_exactly k asked legal states next table a c d).1 t in
          ⊎_elim
          (λ g. ∣ g ∣₁)
          (λ n. absurd (h ((blocks_law (triples k states next)).1 (record { a = a; c = c; d = d; i = i; from = held; wanted = want; stuck = n }))))
          (goes_or_stuck a c d held.1.1 i),
    )
