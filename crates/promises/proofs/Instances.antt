-- No promise about solving has a premise that cannot be met: K1, K3 and K5 with lent buffers meet them, and what is promised then says something of each.
-- (11, of more than 512 plain states, is K11's: crates/cases/proofs/K11.antt.)
-- Assumes nothing.
use Rattle.std.specs.Prelude.{Err}
use mathlib.Core.Path.{◌≡◌, refl, sym, ap, ◌∙◌}
use mathlib.Core.Logic.{◌⊎◌, ⊎_elim}
use mathlib.Core.Bool.{true≢false, false}
use mathlib.Core.List.{List, [], ◌∷◌}
use Prim.Native.Nat.{ℕ}
use native.Mathlib.Omega.{arith}
use lib.ListN.{replicate}
use Rattle.words.specs.System.{Letter}
use Rattle.rules.specs.Limits.{absent}
use Rattle.rules.specs.Tables.{skid_of}
use Rattle.rules.specs.Continues.{every_input}
use Rattle.rules.specs.Skids.{Case, k1, k3, k5}
use Rattle.rules.proofs.Legal.{legal_skid}
use Rattle.answers.specs.Plain.{plain}
use Rattle.answers.specs.declared.Unsolved.TheVariants.{Nothing}
use Rattle.answers.specs.Solve.{table_found, answer_reply, SolveOutcome, solve, Solved}
use Rattle.answers.specs.Skids.{computed}
use Rattle.verdicts.specs.Checkable.{skid_system}
use Rattle.promises.specs.Solvable.{Solvable, TooManySets, WordsOf}
use Rattle.promises.specs.Solving.{IsPlainAnswer, IsUnblockedAnswer, IsNone}
use Rattle.promises.specs.Promises.{OfSolving}
use Rattle.promises.proofs.SetAutomaton.{too_many_exactly}
use Rattle.promises.proofs.Promises.{kept}

-- the lent buffers: 7 is no set of the one pair of K1, and 65535 leads nowhere
unfoldable pub lent_sets : List ℕ
lent_sets = replicate 512 7

unfoldable pub lent_next : List ℕ
lent_next = replicate 8192 absent

module _ (c : Case) where
  -- what is asked of the input, and what is promised of an outcome, for a skid and these buffers
  abbrev pub CanSolve : Type 0
  CanSolve = Solvable c.context c.specification lent_sets lent_next

  abbrev pub Few : Type 0
  Few = ¬ TooManySets c.context c.specification

  abbrev pub Keeps : ℕ → SolveOutcome → Type 1
  Keeps mode o = OfSolving mode c.context c.specification lent_sets lent_next o.reply o.sets o.next

  abbrev pub PlainAnswer : SolveOutcome → Type 1
  PlainAnswer o = IsPlainAnswer c.context c.specification lent_sets lent_next o.reply o.sets o.next

  abbrev pub UnblockedAnswer : SolveOutcome → Type 1
  UnblockedAnswer o = IsUnblockedAnswer c.context c.specification lent_sets lent_next o.reply o.sets o.next

  abbrev pub NoAnswer : SolveOutcome → Type 1
  NoAnswer o = IsNone c.context c.specification lent_sets lent_next o.reply o.sets o.next

  -- the outcome of the definition, which is one that `Solved` allows
  abbrev pub outcome : ℕ → SolveOutcome
  outcome mode = solve mode c.context c.specification lent_sets lent_next

  pub defined : (mode : ℕ) → Solved mode c.context c.specification lent_sets lent_next (outcome mode).reply (outcome mode).sets (outcome mode).next
  defined mode = record { reply_is = refl; sets_are = refl; next_is = refl }

  pub keeps : (mode : ℕ) → Keeps mode (outcome mode)
  keeps mode = kept.solving mode c.context c.specification lent_sets lent_next (outcome mode).reply (outcome mode).sets (outcome mode).next (defined mode)

  -- no set too many is met: there are not too many
  few : CanSolve → (plain (skid_of c.context c.specification)).over ≡ false → Few
  few can found many = true≢false (sym ((too_many_exactly (skid_of c.context c.specification) every_input
      (legal_skid c.context c.specification can.context_sound can.specification_sound)).1 many) ∙ found)

  -- the letters (u, v) of a skid, and the words that a lent buffer runs at the end
  abbrev pub SkidLetter : Type 0
  SkidLetter = Letter (skid_system c.context c.specification)

  abbrev pub BufferRuns : SolveOutcome → List SkidLetter → Type 0
  BufferRuns o = WordsOf c.context c.specification o.next

-- K1, K3 and K5 can be solved
pub k1_can : CanSolve k1
unfolding computed k1 lent_sets lent_next
k1_can = record {
  context_sound = refl;
  specification_sound = refl;
  outside_agrees = refl;
  product_fits_lem = refl;
  sets_room = omega arith;
  next_room = omega arith;
}

pub k3_can : CanSolve k3
unfolding computed k3 lent_sets lent_next
k3_can = record {
  context_sound = refl;
  specification_sound = refl;
  outside_agrees = refl;
  product_fits_lem = refl;
  sets_room = omega arith;
  next_room = omega arith;
}

pub k5_can : CanSolve k5
unfolding computed k5 lent_sets lent_next
k5_can = record {
  context_sound = refl;
  specification_sound = refl;
  outside_agrees = refl;
  product_fits_lem = refl;
  sets_room = omega arith;
  next_room = omega arith;
}

pub k1_few : Few k1
unfolding computed k1
k1_few = few k1 k1_can refl

pub k3_few : Few k3
unfolding computed k3
k3_few = few k3 k3_can refl

pub k5_few : Few k5
unfolding computed k5
k5_few = few k5 k5_can refl

-- what is answered to them
pub k1_plain_reply : (outcome k1 0).reply ≡ answer_reply (table_found 1 0)
unfolding computed k1 lent_sets lent_next
k1_plain_reply = refl

pub k1_unblocked_reply : (outcome k1 1).reply ≡ answer_reply (table_found 1 0)
unfolding computed k1 lent_sets lent_next
k1_unblocked_reply = refl

k3_reply : (outcome k3 1).reply ≡ answer_reply (Err (Nothing 1))
unfolding computed k3 lent_sets lent_next
k3_reply = refl

pub k5_plain_reply : (outcome k5 0).reply ≡ answer_reply (table_found 3 0)
unfolding computed k5 lent_sets lent_next
k5_plain_reply = refl

pub k5_unblocked_reply : (outcome k5 1).reply ≡ answer_reply (table_found 1 2)
unfolding computed k5 lent_sets lent_next
k5_unblocked_reply = refl

-- what is promised of them
pub k1_plain : PlainAnswer k1 (outcome k1 0)
k1_plain = (keeps k1 0).plain refl k1_can k1_few

pub k5_plain : PlainAnswer k5 (outcome k5 0)
k5_plain = (keeps k5 0).plain refl k5_can k5_few

-- 0 is not "none", and 12 is no table
not_none : (c : Case) (o : SolveOutcome) → o.reply.number ≡ 0 → UnblockedAnswer c o ⊎ NoAnswer c o → UnblockedAnswer c o
not_none c o e = ⊎_elim (λ a. a) (λ n. absurd (let z : o.reply.number ≡ 12 = ap (λ r. r.number) n.reply_is in omega arith))

not_table : (c : Case) (o : SolveOutcome) → o.reply.number ≡ 12 → UnblockedAnswer c o ⊎ NoAnswer c o → NoAnswer c o
not_table c o e = ⊎_elim (λ a. absurd (let z : o.reply.number ≡ 0 = ap (λ r. r.number) a.reply_is in omega arith)) (λ n. n)

pub k1_unblocked : UnblockedAnswer k1 (outcome k1 1)
k1_unblocked = not_none k1 (outcome k1 1) (ap (λ r. r.number) k1_unblocked_reply) ((keeps k1 1).unblocked refl k1_can k1_few)

pub k3_none : NoAnswer k3 (outcome k3 1)
k3_none = not_table k3 (outcome k3 1) (ap (λ r. r.number) k3_reply) ((keeps k3 1).unblocked refl k3_can k3_few)

pub k5_unblocked : UnblockedAnswer k5 (outcome k5 1)
k5_unblocked = not_none k5 (outcome k5 1) (ap (λ r. r.number) k5_unblocked_reply) ((keeps k5 1).unblocked refl k5_can k5_few)

-- the letters (0, 0) and (0, 1) on K1: "u follows i, o follows v; specification o = i", so the one is run and the other is not
unfoldable pub k1_00 : SkidLetter k1
unfolding computed k1
k1_00 = ((0, omega arith), (0, omega arith))

k1_01 : SkidLetter k1
unfolding computed k1
k1_01 = ((0, omega arith), (1, omega arith))

pub k1_runs : BufferRuns k1 (outcome k1 0) (k1_00 ∷ [])
unfolding computed k1 lent_sets lent_next k1_00
k1_runs = tt

k1_runs_not : ¬ BufferRuns k1 (outcome k1 0) (k1_01 ∷ [])
unfolding computed k1 lent_sets lent_next k1_01
k1_runs_not h = h
