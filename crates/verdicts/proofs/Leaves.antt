-- The check finds that a controller leaves exactly if "from some triple a joint step has no specification row".
-- Assumes nothing.
use Rattle.std.specs.Prelude.{if◌then◌else◌}
use mathlib.Core.Path.{◌≡◌, refl, subst}
use mathlib.Core.Logic.{◌↔◌}
use mathlib.Core.Bool.{Bool, false, not}
use mathlib.Core.Option.{Option, none, some, IsSome, some-ne-none}
use mathlib.Core.List.{List}
use Prim.Native.Nat.{ℕ, ◌<◌}
use lib.Dec.{T}
use Rattle.words.specs.System.{letter}
use Rattle.words.specs.Fit.{Stays}
use Rattle.words.proofs.Words.{known, is_some, not_both, dec_some}
use Rattle.words.proofs.Faulty.{Leaving}
use Rattle.pairs.specs.Scans.{any}
use Rattle.pairs.specs.Sets.{pair_place}
use Rattle.pairs.proofs.Scans.{both_yes, yes_both, any_yes, yes_any}
use Rattle.pairs.proofs.Sets.{pair_context, pair_specification}
use Rattle.rules.specs.NextTables.{is_present}
use Rattle.rules.specs.Tables.{Skid, row_i, row_o, row_next, spec_next, row_spec_next}
use Rattle.rules.specs.Meaning.{NextTable, Legal, system, table_step}
use Rattle.rules.proofs.Rows.{action}
use Rattle.verdicts.specs.Triples.{joint_row, triples}
use Rattle.verdicts.specs.Verdict.{leaves}
use Rattle.verdicts.proofs.Sweep.{Held}
use Rattle.verdicts.proofs.Rows.{row_joint, joint_row_lem}
use Rattle.verdicts.proofs.Held.{any_triple_lem}
use Rattle.verdicts.proofs.Triples.{triples_exactly}

none_yes : (o : Option ℕ) → T (not (is_present o)) ↔ (o ≡ none)
none_yes none = (λ t. refl, λ e. tt)
none_yes (some x) = (λ t. absurd t, λ e. absurd (some-ne-none x e))

no_some : {S : Type 0} (o : Option S) → ¬ IsSome o → o ≡ none
no_some none h = refl
no_some (some x) h = absurd (h tt)

module _ (k : Skid) (asked : ℕ → ℕ → Bool) (states : ℕ) (next : List ℕ) where
  abbrev lacks : ℕ → ℕ → List ℕ → Bool
  lacks s p r = if joint_row k next s p r then not (is_present (row_spec_next k p r)) else false

  pub leaves_law : Legal k → (sets : List ℕ) → T (leaves k states next sets) ↔ Leaving (system k asked) (table_step k asked next) (Held k states sets)
  unfolding leaves
  leaves_law legal sets = (
    λ t. let (a, c, d, h, t₁) = (any_triple_lem k legal states next sets (λ s p. any (lacks s p) k.context)).0 t in
        let (r, m, t₂) = any_yes (lacks d (pair_place k.n_c a c)) k.context t₁ in
        let (j, t₃) = both_yes (joint_row k next d (pair_place k.n_c a c) r) (not (is_present (row_spec_next k (pair_place k.n_c a c) r))) t₂ in
        let (ctx, ctl) = row_joint k asked states next legal d (pair_place k.n_c a c) r m j in
        record {
          a = a;
          c = c;
          d = d;
          x = action k legal asked r m;
          from = h;
          context = is_some (subst (λ a. (system k asked).ctx a (action k legal asked r m) ≡ some (row_next r)) (pair_context k.n_c a c h.1.1) ctx);
          controller = is_some ctl;
          no_row = subst (λ c. spec_next k c (row_i r) (row_o r) ≡ none) (pair_specification k.n_c a c h.1.1) ((none_yes _).0 t₃);
        },
    λ f. let (a', ea) = known ((system k asked).ctx f.a f.x) f.context in
        let (d', ed) = known (table_step k asked next f.d (letter (system k asked) f.x)) f.controller in
        let hc : f.c < k.n_c = f.from.1.1 in
        let j = joint_row_lem k asked states next f.a f.c f.d f.x a' d' hc ea ed in
        (any_triple_lem k legal states next sets (λ s p. any (lacks s p) k.context)).1 (
          f.a,
          f.c,
          f.d,
          f.from,
          yes_any (lacks f.d (pair_place k.n_c f.a f.c)) k.context j.row j.is_row
              (yes_both (joint_row k next f.d (pair_place k.n_c f.a f.c) j.row) (not (is_present (row_spec_next k (pair_place k.n_c f.a f.c) j.row))) j.joint
              ((none_yes (row_spec_next k (pair_place k.n_c f.a f.c) j.row)).1 (rw (pair_specification k.n_c f.a f.c hc, j.same_i, j.same_o) f.no_row))),
        ),
  )

  -- the controller stays, as the theory has it, exactly if the check does not find that it leaves
  pub stays_law : Legal k → NextTable states next → Stays (system k asked) (table_step k asked next) 0 ↔ (¬ T (leaves k states next (triples k states next)))
  stays_law legal table = (
    λ f t. let l = (leaves_law legal (triples k states next)).0 t in
        not_both (f l.a l.c l.d ((triples_exactly k asked legal states next table l.a l.c l.d).0 l.from) l.x l.context l.controller) l.no_row,
    λ h a c d t x ha hd. dec_some ((system k asked).spc c ((system k asked).outside x)) (λ n. h ((leaves_law legal (triples k states next)).1
        (record { a = a; c = c; d = d; x = x; from = (triples_exactly k asked legal states next table a c d).1 t; context = ha; controller = hd; no_row = no_some _ n }))),
  )
