-- All that is promised is kept.
-- Assumes nothing.
use Rattle.std.specs.Prelude.{Some, Err}
use mathlib.Core.Path.{◌≡◌, refl, sym, ap, subst}
use mathlib.Core.Logic.Iff
use mathlib.Core.Logic.{◌↔◌, ◌⊎◌, inl, inr, ⊎_elim}
use mathlib.Core.Bool.{Bool, true, false}
use mathlib.Core.List.{List}
use Prim.Native.Nat.{ℕ, ◌≤◌}
use native.Mathlib.Omega.{arith}
use Rattle.words.specs.Words.{Words}
use Rattle.words.specs.System.{Letter, Good}
use Rattle.rules.specs.declared.Reply.{Reply}
use Rattle.rules.specs.Tables.{Skid, skid_of}
use Rattle.rules.specs.Continues.{every_input}
use Rattle.rules.proofs.Legal.{legal_skid}
use Rattle.rules.proofs.WriteRead.{write_then_read}
use Rattle.rules.proofs.ReadWrite.{read_then_write}
use Rattle.answers.specs.declared.Wanted.TheVariants.{Plain, Unblocked}
use Rattle.answers.specs.Plain.{plain}
use Rattle.answers.specs.Rounds.{is_kept}
use Rattle.answers.specs.declared.Unsolved.TheVariants.{TooMany, Nothing}
use Rattle.answers.specs.Solve.{mode_of, answer_reply, plain_solution, solved, Solved}
use Rattle.answers.proofs.Unblocked as rounds
use Rattle.answers.proofs.Solutions.{deleted}
use Rattle.answers.proofs.Small.{solved_small}
use Rattle.verdicts.specs.Checkable.{skid_system}
use Rattle.promises.specs.Solvable.{Solvable, TooManySets}
use Rattle.promises.specs.Solving.{IsUnblockedAnswer, IsNone, IsTooMany}
use Rattle.promises.specs.Promises.{OfSolving, Promises}
use Rattle.promises.proofs.Rows.{skid_of_rows, table_of_rows}
use Rattle.promises.proofs.SetAutomaton.{too_many_exactly}
use Rattle.promises.proofs.Solvable.{answered_solvable, too_many_given, plain_given, unblocked_given, none_given, number_too_many, zeros_given}
use Rattle.promises.proofs.Answers.{is_plain, is_unblocked, is_none}
use Rattle.promises.proofs.Checking.{checking_keeps}
use Rattle.promises.proofs.Together.{written_fits, inside}
use Rattle.promises.proofs.OneAnswer.{solving_determined}

not_true : (b : Bool) → ¬ (b ≡ true) → b ≡ false
not_true true n = absurd (n refl)
not_true false n = refl

module _ (mode : ℕ) (context specification sets next : List ℕ) (reply : Reply) (sets' next' : List ℕ) (done : Solved mode context specification sets next reply sets' next') where
  abbrev k : Skid
  k = skid_of context specification

  module _ (can : Solvable context specification sets next) where
    -- one set too many is met exactly where more than 512 are reached by words
    over_exactly : ((plain k).over ≡ true) ↔ TooManySets context specification
    over_exactly = too_many_exactly k every_input (legal_skid context specification can.context_sound can.specification_sound)

    few_found : (¬ TooManySets context specification) → (plain k).over ≡ false
    few_found few = not_true (plain k).over (λ e. few (over_exactly.0 e))

    -- mode 1, where the plain states are few enough: the start is kept or not
    answered : mode_of mode ≡ Some Unblocked → (plain k).over ≡ false
        → IsUnblockedAnswer context specification sets next reply sets' next' ⊎ IsNone context specification sets next reply sets' next'
    answered m found = go (is_kept (deleted k).kept 0) refl
      where
        go : (b : Bool) → is_kept (deleted k).kept 0 ≡ b → IsUnblockedAnswer context specification sets next reply sets' next' ⊎ IsNone context specification sets next reply sets' next'
        go true e = inl (is_unblocked context specification sets next reply sets' next' can found e (unblocked_given mode context specification sets next reply sets' next' done m can found e))
        go false e = inr (is_none context specification sets next reply sets' next' can found e (none_given mode context specification sets next reply sets' next' done m can found e))

  -- 12 and a good controller exclude each other
  none_law : IsUnblockedAnswer context specification sets next reply sets' next' ⊎ IsNone context specification sets next reply sets' next'
      → (reply.number ≡ (answer_reply (Err (Nothing 0))).number) ↔ ((X : Words (Letter (skid_system context specification))) → ¬ Good (skid_system context specification) X)
  none_law (inl a) = (λ e. absurd (let z : reply.number ≡ 0 = ap (λ r. r.number) a.reply_is in omega arith), λ h. absurd (h _ a.good))
  none_law (inr a) = (λ e. a.no_good, λ h. ap (λ r. r.number) a.reply_is)

  too_many_is : reply.number ≡ (answer_reply (Err TooMany)).number → IsTooMany context specification sets next reply sets' next'
  unfolding solved
  too_many_is e =
      let ((w, m), can) = answered_solvable mode context specification sets next reply sets' next' done (inr (inl e)) in
      let over = (number_too_many mode context specification sets next reply sets' next' done m can).0 e in
      let given = too_many_given mode context specification sets next reply sets' next' done m can over in
      record { reply_is = given.reply_is; buffers = zeros_given (Err TooMany) given }

  solving_keeps : OfSolving mode context specification sets next reply sets' next'
  solving_keeps = record {
    plain = λ m can few. is_plain context specification sets next reply sets' next' can (few_found can few)
        (plain_given mode context specification sets next reply sets' next' done m can (few_found can few));
    unblocked = λ m can few. answered can m (few_found can few);
    none_exactly = λ m can few. none_law (answered can m (few_found can few));
    too_many = λ w m can. Iff.trans (number_too_many mode context specification sets next reply sets' next' done m can) (over_exactly can);
    too_many_is = too_many_is;
    given = answered_solvable mode context specification sets next reply sets' next' done;
  }

  -- where a table or "none" is given, the input was solvable and the plain states few enough
  settled : (reply.number ≡ 0) ⊎ (reply.number ≡ (answer_reply (Err (Nothing 0))).number) → Solvable context specification sets next × ((plain k).over ≡ false)
  settled h =
      let ((w, m), can) = answered_solvable mode context specification sets next reply sets' next' done (⊎_elim inl (λ z. inr (inr z)) h) in
      (can, not_true (plain k).over (λ over. let e = (number_too_many mode context specification sets next reply sets' next' done m can).1 over in ⊎_elim (λ z. omega arith) (λ z. omega arith) h))

  module _ (m : mode_of mode ≡ Some Unblocked) where
    settled_answer : (reply.number ≡ 0) ⊎ (reply.number ≡ (answer_reply (Err (Nothing 0))).number)
        → IsUnblockedAnswer context specification sets next reply sets' next' ⊎ IsNone context specification sets next reply sets' next'
    settled_answer h = let (can, found) = settled h in answered can m found

    settled_table : reply.number ≡ 0 → IsUnblockedAnswer context specification sets next reply sets' next'
    settled_table z = ⊎_elim (λ a. a) (λ a. absurd (let e : reply.number ≡ 12 = ap (λ r. r.number) a.reply_is in omega arith)) (settled_answer (inl z))

-- the rounds of mode 1 and the states of mode 0
few_rounds : (mode mode₁ : ℕ) (context specification sets next : List ℕ) (reply reply₁ : Reply) (sets' next' sets₁ next₁ : List ℕ)
    → Solved mode context specification sets next reply sets' next' → Solved mode₁ context specification sets next reply₁ sets₁ next₁
    → mode_of mode ≡ Some Plain → reply.number ≡ 0 → reply₁.rounds ≤ reply.states
unfolding solved plain_solution
few_rounds mode mode₁ context specification sets next reply reply₁ sets' next' sets₁ next₁ done done₁ m z =
    let (can, found) = settled mode context specification sets next reply sets' next' done (inl z) in
    let given = plain_given mode context specification sets next reply sets' next' done m can found in
    subst (λ (r : Reply). reply₁.rounds ≤ r.states) (sym given.reply_is) (rounds.rounds_few context specification sets next mode₁ reply₁ sets₁ next₁ done₁)

pub kept : Promises
kept = record {
  skid = λ context specification sets next can. skid_of_rows context specification can.context_sound can.specification_sound can.outside_agrees;
  table = λ context specification controller sets can. (
    skid_of_rows context specification can.context_sound can.specification_sound can.outside_agrees,
    table_of_rows context specification controller can.controller_sound can.letters_agree_lem,
  );
  solving = solving_keeps;
  checking = checking_keeps;
  rounds_few = few_rounds;
  solved_fits = λ mode context specification sets next reply sets' next' done m z.
      let (can, _) = settled mode context specification sets next reply sets' next' done (inl z) in
      let answer = settled_table mode context specification sets next reply sets' next' done m z in
      written_fits context specification sets next reply.states sets' next' can.context_sound can.specification_sound can.outside_agrees can.product_fits_lem answer.buffers
      (solved_small mode context specification sets next reply sets' next' done z).0 answer.good;
  fits_inside = λ mode context specification sets next reply sets' next' done m h.
      inside context specification sets next reply sets' next' (settled_answer mode context specification sets next reply sets' next' done m h);
  one_outcome = λ mode w context specification sets next reply reply₁ sets' sets₁ next' next₁. solving_determined context specification sets next reply reply₁ sets' sets₁ next' next₁ mode w;
  written_read = write_then_read;
  read_written = read_then_write;
}
