-- What each verdict of the check means for the words of the controller: it fits exactly if they are a good controller; else the verdict names the
-- first fault that they have, "incomplete", "otherwise" leaves, "otherwise" blocks.
-- Assumes nothing.
use Rattle.std.specs.Prelude.{if◌then◌else◌, Ok, Err}
use mathlib.Core.Path.{◌≡◌, refl, subst}
use mathlib.Core.Logic.Iff
use mathlib.Core.Logic.{◌↔◌}
use mathlib.Core.Bool.{Bool, true, false}
use mathlib.Core.Option.{Option}
use mathlib.Core.List.{List}
use Prim.Native.Nat.{ℕ}
use lib.Dec.{T}
use Rattle.words.specs.Words.{Words}
use Rattle.words.specs.System.{System, Letter, Good}
use Rattle.words.specs.Fit.{Triple}
use Rattle.words.specs.Faulty.{LacksReply, LeavesSpecification, LacksContinuation}
use Rattle.words.proofs.Fit.{fits_iff_good}
use Rattle.words.proofs.Faulty.{leaving_same, blocked_same, lacking_iff, leaving_iff, blocked_iff, good_replies, good_stays, good_continues}
use Rattle.rules.specs.Tables.{Skid}
use Rattle.rules.specs.Meaning.{NextTable, Legal, system, table_step, TableWords}
use Rattle.verdicts.specs.declared.Misfit.TheVariants.{Incomplete, Leaves, Blocks}
use Rattle.verdicts.specs.Triples.{triples}
use Rattle.verdicts.specs.Verdict.{Verdict, incomplete, leaves, blocks, verdict}
use Rattle.verdicts.proofs.Sweep.{Held}
use Rattle.verdicts.proofs.Triples.{triples_exactly}
use Rattle.verdicts.proofs.Complete.{incomplete_law, complete_law}
use Rattle.verdicts.proofs.Leaves.{leaves_law, stays_law}
use Rattle.verdicts.proofs.Blocks.{blocks_law, joins_law}

-- the verdict by three tests, and what it says of three faults: the first that is there
abbrev pick : Bool → Bool → Bool → Verdict
pick a b c = if a then Err Incomplete else if b then Err Leaves else if c then Err Blocks else Ok tt

abbrev Says : Verdict → Type 0 → Type 0 → Type 0 → Type 0
Says (Err Incomplete) A B C = A
Says (Err Leaves) A B C = (¬ A) × B
Says (Err Blocks) A B C = (¬ A) × (¬ B) × C
Says (Ok tt) A B C = (¬ A) × (¬ B) × (¬ C)

picked_says : (a b c : Bool) → Says (pick a b c) (T a) (T b) (T c)
picked_says true b c = tt
picked_says false true c = (λ t. t, tt)
picked_says false false true = (λ t. t, λ t. t, tt)
picked_says false false false = (λ t. t, λ t. t, λ t. t)

says_picked : (v : Verdict) (a b c : Bool) → Says v (T a) (T b) (T c) → pick a b c ≡ v
says_picked (Err Incomplete) true b c h = refl
says_picked (Err Incomplete) false b c h = absurd h
says_picked (Err Leaves) true b c h = absurd (h.0 tt)
says_picked (Err Leaves) false true c h = refl
says_picked (Err Leaves) false false c h = absurd h.1
says_picked (Err Blocks) true b c h = absurd (h.0 tt)
says_picked (Err Blocks) false true c h = absurd (h.1 tt)
says_picked (Err Blocks) false false true h = refl
says_picked (Err Blocks) false false false h = absurd h.2
says_picked (Ok tt) true b c h = absurd (h.0 tt)
says_picked (Ok tt) false true c h = absurd (h.1 tt)
says_picked (Ok tt) false false true h = absurd (h.2 tt)
says_picked (Ok tt) false false false h = refl

says_map : (v : Verdict) {A B C A' B' C' : Type 0} → A ↔ A' → B ↔ B' → C ↔ C' → Says v A B C → Says v A' B' C'
says_map (Err Incomplete) f g h s = f.0 s
says_map (Err Leaves) f g h s = (λ a. s.0 (f.1 a), g.0 s.1)
says_map (Err Blocks) f g h s = (λ a. s.0 (f.1 a), λ b. s.1 (g.1 b), h.0 s.2)
says_map (Ok tt) f g h s = (λ a. s.0 (f.1 a), λ b. s.1 (g.1 b), λ c. s.2 (h.1 c))

module _ (k : Skid) (asked : ℕ → ℕ → Bool) (legal : Legal k) (states : ℕ) (next : List ℕ) (table : NextTable states next) where
  abbrev sys : System
  sys = system k asked

  abbrev X : Words (Letter sys)
  X = TableWords k asked next

  abbrev step : ℕ → Letter sys → Option ℕ
  step = table_step k asked next

  abbrev reached : List ℕ
  reached = triples k states next

  lacks_reply : T (incomplete k states next) ↔ LacksReply sys X
  lacks_reply = Iff.trans (incomplete_law k asked states next table) (lacking_iff sys step 0)

  leaves_specification : T (leaves k states next reached) ↔ LeavesSpecification sys X
  leaves_specification = Iff.trans (leaves_law k asked states next legal reached)
      (Iff.trans (leaving_same sys step (Held k states reached) (Triple sys step 0) (triples_exactly k asked legal states next table)) (leaving_iff sys step 0))

  lacks_continuation : T (blocks k states next asked reached) ↔ LacksContinuation sys X
  lacks_continuation = Iff.trans (blocks_law k asked states next legal reached)
      (Iff.trans (blocked_same sys step (Held k states reached) (Triple sys step 0) (triples_exactly k asked legal states next table)) (blocked_iff sys step 0))

  verdict_law : (v : Verdict) → (verdict k states next asked ≡ v) ↔ Says v (LacksReply sys X) (LeavesSpecification sys X) (LacksContinuation sys X)
  unfolding verdict
  verdict_law v = (
    λ e. says_map v lacks_reply leaves_specification lacks_continuation
        (subst (λ v. Says v (T (incomplete k states next)) (T (leaves k states next reached)) (T (blocks k states next asked reached))) e
        (picked_says (incomplete k states next) (leaves k states next reached) (blocks k states next asked reached))),
    λ h. says_picked v (incomplete k states next) (leaves k states next reached) (blocks k states next asked reached)
        (says_map v (Iff.symm lacks_reply) (Iff.symm leaves_specification) (Iff.symm lacks_continuation) h),
  )

  pub verdict_incomplete : (verdict k states next asked ≡ Err Incomplete) ↔ LacksReply (system k asked) (TableWords k asked next)
  verdict_incomplete = verdict_law (Err Incomplete)

  pub verdict_leaves : (verdict k states next asked ≡ Err Leaves)
      ↔ ((¬ LacksReply (system k asked) (TableWords k asked next)) × LeavesSpecification (system k asked) (TableWords k asked next))
  verdict_leaves = verdict_law (Err Leaves)

  pub verdict_blocks : (verdict k states next asked ≡ Err Blocks)
      ↔ ((¬ LacksReply (system k asked) (TableWords k asked next)) × (¬ LeavesSpecification (system k asked) (TableWords k asked next)) × LacksContinuation (system k asked) (TableWords k asked next))
  verdict_blocks = verdict_law (Err Blocks)

  pub verdict_fits : (verdict k states next asked ≡ Ok tt) ↔ Good (system k asked) (TableWords k asked next)
  verdict_fits = (
    λ e. let (signals, stays, goes_on) = (verdict_law (Ok tt)).0 e in
        (fits_iff_good sys step 0).0 (record {
          complete = (complete_law k asked states next table).0 (λ t. signals (lacks_reply.0 t));
          stays = (stays_law k asked states next legal table).1 (λ t. stays (leaves_specification.0 t));
          joins = (joins_law k asked states next legal table).1 (λ t. goes_on (lacks_continuation.0 t));
        }),
    λ g. (verdict_law (Ok tt)).1 (good_replies sys X g, good_stays sys X g, good_continues sys X g),
  )
