-- Document 01, "Strength of the contracts", "Try these against them": each wrong program named there falls by what is promised of words, tables and
-- counts, and by nothing else. Said of any outcome that keeps the promises on a skid with lent buffers, however it was computed.
-- Assumes nothing.
use Rattle.std.specs.Prelude.{Some}
use mathlib.Core.Path.{◌≡◌, refl, sym, ap, subst, ◌∙◌}
use mathlib.Core.Logic.{◌⊎◌, ⊎_elim}
use mathlib.Core.List.{List, [], ◌∷◌, ◌++◌, append_assoc, append-nil}
use Prim.Native.Nat.{ℕ}
use native.Mathlib.Omega.{arith}
use lib.ListN.{get_or}
use Rattle.words.specs.Words.{Words, PrefixClosed}
use Rattle.words.specs.System.{Letter, controller_word, Plain as PlainWord, Good}
use Rattle.words.specs.Kept.{RoundsOfWords}
use Rattle.words.proofs.Kept.{rounds_words_unique}
use Rattle.pairs.specs.Lent.{decoded}
use Rattle.rules.specs.declared.Reply.{Reply}
use Rattle.rules.specs.Limits.{absent}
use Rattle.rules.specs.Skids.{Case, k1, k3, k5}
use Rattle.answers.specs.declared.Wanted.{Wanted}
use Rattle.answers.specs.declared.Wanted.TheVariants.{Plain, Unblocked}
use Rattle.answers.specs.Solve.{mode_of, SolveOutcome}
use Rattle.answers.specs.Skids.{computed}
use Rattle.verdicts.specs.Checkable.{skid_system}
use Rattle.promises.specs.Solvable.{Solvable, TooManySets, WordsOf}
use Rattle.promises.specs.Solving.{IsPlainAnswer, IsUnblockedAnswer}
use Rattle.promises.specs.Promises.{OfSolving}
use Rattle.promises.proofs.Promises.{kept}
use Rattle.promises.proofs.Instances.{Keeps, CanSolve, keeps, UnblockedAnswer, SkidLetter, BufferRuns, outcome, lent_sets, lent_next, k1_can, k1_few, k3_can, k3_few, k5_can, k5_few, k1_plain, k3_none, k1_unblocked, k5_unblocked, k1_unblocked_reply, k5_unblocked_reply, k1_plain_reply, k5_plain_reply, k1_00, k1_runs}

module _ (context specification sets next : List ℕ) (can : Solvable context specification sets next) (few : ¬ TooManySets context specification)
    (reply : Reply) (sets' next' : List ℕ) where
  -- in mode 0 no input that can be solved is refused
  pub plain_not_refused : OfSolving 0 context specification sets next reply sets' next' → reply.number ≡ 0
  plain_not_refused h = ap (λ r. r.number) (h.plain refl can few).reply_is

  -- in mode 1 none is for which there is a good controller
  pub answered_where_good : (X : Words (Letter (skid_system context specification))) → Good (skid_system context specification) X
      → OfSolving 1 context specification sets next reply sets' next' → IsUnblockedAnswer context specification sets next reply sets' next'
  answered_where_good X good h = ⊎_elim (λ a. a) (λ n. absurd (n.no_good X good)) (h.unblocked refl can few)

  -- whether a table or "none" is given, the rounds are those of the words
  pub rounds_of : OfSolving 1 context specification sets next reply sets' next' → RoundsOfWords (skid_system context specification) reply.rounds
  rounds_of h = ⊎_elim (λ a. a.rounds) (λ n. n.rounds) (h.unblocked refl can few)

-- what keeps the promise on a skid that can be solved is the outcome of the definition: the promises leave no other
one_outcome : (c : Case) → CanSolve c → (mode : ℕ) (w : Wanted) → mode_of mode ≡ Some w → (o : SolveOutcome) → Keeps c mode o
    → (o.reply ≡ (outcome c mode).reply) × (o.sets ≡ (outcome c mode).sets) × (o.next ≡ (outcome c mode).next)
one_outcome c can mode w e o h = kept.one_outcome mode w c.context c.specification lent_sets lent_next o.reply (outcome c mode).reply o.sets (outcome c mode).sets
    o.next (outcome c mode).next e can h (keeps c mode)

-- what keeps the promise on K1 and on K5 has a table
k1_table : (o : SolveOutcome) → Keeps k1 1 o → UnblockedAnswer k1 o
k1_table o = answered_where_good k1.context k1.specification lent_sets lent_next k1_can k1_few o.reply o.sets o.next
    (WordsOf k1.context k1.specification (outcome k1 1).next) k1_unblocked.good

k5_table : (o : SolveOutcome) → Keeps k5 1 o → UnblockedAnswer k5 o
k5_table o = answered_where_good k5.context k5.specification lent_sets lent_next k5_can k5_few o.reply o.sets o.next
    (WordsOf k5.context k5.specification (outcome k5 1).next) k5_unblocked.good

-- ---- "one that refuses always (demand 3, "none")"
pub refusing_always_falls : (o : SolveOutcome) → Keeps k1 1 o → o.reply.number ≡ 0
refusing_always_falls o h = ap (λ r. r.number) (k1_table o h).reply_is

-- ---- "invented .. rounds (demand 2, defined above)": of K1 there are none, of K5 two
pub k1_rounds : (o : SolveOutcome) → Keeps k1 1 o → o.reply.rounds ≡ 0
k1_rounds o h = rounds_words_unique (skid_system k1.context k1.specification) o.reply.rounds (outcome k1 1).reply.rounds (k1_table o h).rounds k1_unblocked.rounds
    ∙ ap (λ r. r.rounds) k1_unblocked_reply

pub k5_rounds : (o : SolveOutcome) → Keeps k5 1 o → o.reply.rounds ≡ 2
k5_rounds o h = rounds_words_unique (skid_system k5.context k5.specification) o.reply.rounds (outcome k5 1).reply.rounds (k5_table o h).rounds k5_unblocked.rounds
    ∙ ap (λ r. r.rounds) k5_unblocked_reply

-- on any skid: two outcomes that keep the promise have the same rounds
pub invented_rounds_fall : (context specification sets next : List ℕ) → Solvable context specification sets next → ¬ TooManySets context specification
    → (reply reply₁ : Reply) (sets' next' sets₁ next₁ : List ℕ)
    → OfSolving 1 context specification sets next reply sets' next' → OfSolving 1 context specification sets next reply₁ sets₁ next₁ → reply.rounds ≡ reply₁.rounds
invented_rounds_fall context specification sets next can few reply reply₁ sets' next' sets₁ next₁ h h₁ =
    rounds_words_unique (skid_system context specification) reply.rounds reply₁.rounds
    (rounds_of context specification sets next can few reply sets' next' h) (rounds_of context specification sets next can few reply₁ sets₁ next₁ h₁)

-- ---- "one with a fixed reply .. (demand 2)"
pub fixed_reply_falls : (o o' : SolveOutcome) → Keeps k1 1 o → Keeps k5 1 o' → ¬ (o.reply ≡ o'.reply)
fixed_reply_falls o o' h h' e =
    let none = k1_rounds o h in
    let two = k5_rounds o' h' in
    let same : o.reply.rounds ≡ o'.reply.rounds = ap (λ r. r.rounds) e in
    omega arith

-- ---- "The plain answer without rows falls by the "exactly when" of demand 3."
-- the beginnings of a word
abbrev Beginnings : {L : Type 0} → List L → Words L
Beginnings {L} w p = (z : List L) × (p ++ z ≡ w)

beginnings_closed : {L : Type 0} (w : List L) → PrefixClosed (Beginnings w)
beginnings_closed w p z (y, e) = (z ++ y, sym (append_assoc p z y) ∙ e)

-- the beginnings of a plain word stay within the specification: by the "exactly when" they lie inside the answer, and the word does
pub plain_word_run : (context specification sets next : List ℕ) (reply : Reply) (sets' next' : List ℕ) → IsPlainAnswer context specification sets next reply sets' next'
    → (w : List (Letter (skid_system context specification))) → PlainWord (skid_system context specification) w → WordsOf context specification next' w
plain_word_run context specification sets next reply sets' next' a w plain =
    (a.undoes_composing (Beginnings w) (beginnings_closed w)).0 (λ α combined (z, e). plain (controller_word (skid_system context specification) α) z e α combined refl)
    w ([], append-nil w)

k1_row : (o : SolveOutcome) → Keeps k1 0 o → BufferRuns k1 o (k1_00 ∷ [])
k1_row o h = plain_word_run k1.context k1.specification lent_sets lent_next o.reply o.sets o.next (h.plain refl k1_can k1_few) (k1_00 ∷ [])
    ((k1_plain.words (k1_00 ∷ [])).0 k1_runs)

-- a table without rows runs no letter
pub plain_without_rows_falls : (o : SolveOutcome) → Keeps k1 0 o → ¬ ((l : SkidLetter k1) → ¬ BufferRuns k1 o (l ∷ []))
plain_without_rows_falls o h none = none k1_00 (k1_row o h)

-- ---- "an untouched buffer (demand 2)", in either mode
-- 65535 leads nowhere, and an answer to K1 runs the letter (0, 0): a plain one by the above, an unblocked one since it contains K1's good controllers
absent_runs_not : ¬ WordsOf k1.context k1.specification lent_next (k1_00 ∷ [])
unfolding computed k1 lent_next k1_00
absent_runs_not h = h

k1_good_runs : BufferRuns k1 (outcome k1 1) (k1_00 ∷ [])
unfolding computed k1 lent_sets lent_next k1_00
k1_good_runs = tt

pub untouched_next_falls : (o : SolveOutcome) → Keeps k1 0 o ⊎ Keeps k1 1 o → ¬ (o.next ≡ lent_next)
untouched_next_falls o h e = absent_runs_not (subst (λ next. WordsOf k1.context k1.specification next (k1_00 ∷ [])) e
    (⊎_elim (k1_row o) (λ u. (k1_table o u).largest (BufferRuns k1 (outcome k1 1)) k1_unblocked.good (k1_00 ∷ []) k1_good_runs) h))

pub untouched_sets_fall : (o : SolveOutcome) → Keeps k1 0 o ⊎ Keeps k1 1 o → ¬ (o.sets ≡ lent_sets)
unfolding computed k1 lent_sets lent_next
untouched_sets_fall o h e = ⊎_elim
    (λ p. let z : 7 ≡ 1 = ap (λ l. get_or l 0 0) (sym e ∙ (one_outcome k1 k1_can 0 Plain refl o p).1) in omega arith)
    (λ u. let z : 7 ≡ 1 = ap (λ l. get_or l 0 0) (sym e ∙ (one_outcome k1 k1_can 1 Unblocked refl o u).1) in omega arith)
    h

-- on K3, which has no good controller, "both parts are zero"
pub untouched_none_falls : (o : SolveOutcome) → Keeps k3 1 o → (¬ (o.sets ≡ lent_sets)) × (¬ (o.next ≡ lent_next))
unfolding computed lent_sets lent_next decoded
untouched_none_falls o h =
    let zeros = ⊎_elim (λ a. absurd (k3_none.no_good (BufferRuns k3 o) a.good)) (λ n. n.buffers) (h.unblocked refl k3_can k3_few) in
    (λ e. absurd (let z : 7 ≡ 0 = ap decoded (sym e ∙ zeros.sets_are) in omega arith), λ e. absurd (let z : absent ≡ 0 = ap decoded (sym e ∙ zeros.next_is) in omega arith))

-- ---- "one that deletes in the first round and then only counts (demand 3, the answer must not block)"
-- on K5, v = 1 at the start leads to plain state 1, which is deleted in the second round
unfoldable pub k5_01 : SkidLetter k5
unfolding computed k5
k5_01 = ((0, omega arith), (1, omega arith))

k5_runs_not : ¬ BufferRuns k5 (outcome k5 1) (k5_01 ∷ [])
unfolding computed k5 lent_sets lent_next k5_01
k5_runs_not h = h

-- an answer that does not block is a good controller, and these lie inside the answer, which has no such word
pub only_counting_falls : (o : SolveOutcome) → Keeps k5 1 o → ¬ BufferRuns k5 o (k5_01 ∷ [])
only_counting_falls o h runs = k5_runs_not (k5_unblocked.largest (BufferRuns k5 o) (k5_table o h).good (k5_01 ∷ []) runs)

-- but the table of plain states 0 and 1, which the first round leaves, has it
pub first_round_falls : (o : SolveOutcome) → Keeps k5 1 o → (rest : List ℕ) → ¬ (o.next ≡ 0 ∷ 1 ∷ absent ∷ absent ∷ rest)
unfolding computed k5 k5_01
first_round_falls o h rest e = only_counting_falls o h (subst (λ next. WordsOf k5.context k5.specification next (k5_01 ∷ [])) (sym e) tt)

-- ---- "invented states .. (demand 2, defined above)"
pub invented_states_fall : (o : SolveOutcome) → Keeps k1 0 o → o.reply.states ≡ 1
invented_states_fall o h = ap (λ r. r.states) ((one_outcome k1 k1_can 0 Plain refl o h).0 ∙ k1_plain_reply)

pub k5_states : (o : SolveOutcome) → Keeps k5 0 o → o.reply.states ≡ 3
k5_states o h = ap (λ r. r.states) ((one_outcome k5 k5_can 0 Plain refl o h).0 ∙ k5_plain_reply)

-- so there is no fixed reply in mode 0 either
pub fixed_plain_reply_falls : (o o' : SolveOutcome) → Keeps k1 0 o → Keeps k5 0 o' → ¬ (o.reply ≡ o'.reply)
fixed_plain_reply_falls o o' h h' e =
    let one = invented_states_fall o h in
    let three = k5_states o' h' in
    let same : o.reply.states ≡ o'.reply.states = ap (λ r. r.states) e in
    omega arith
