-- What solving gives where an answer has been found: the plain answer, the unblocked answer and "none", with their meaning for words.
-- Assumes nothing.
use Rattle.std.specs.Prelude.{Err}
use mathlib.Core.Path.{◌≡◌, refl, sym, subst, ◌∙◌}
use mathlib.Core.Logic.Iff
use mathlib.Core.Logic.{◌↔◌}
use mathlib.Core.Bool.{true, false}
use mathlib.Core.Option.{Option}
use mathlib.Core.List.{List}
use Prim.Native.Nat.{ℕ, ◌*◌}
use lib.Dec.{T}
use lib.ListN.{length}
use Rattle.words.specs.System.{System, Letter, Plain}
use Rattle.words.specs.Sets.{SetAutomaton}
use Rattle.words.specs.Deletion as deletion
use Rattle.words.specs.Kept.{RoundsOfWords, ThroughKept}
use Rattle.words.specs.Renamed.{Renamed}
use Rattle.words.proofs.Largest.{stays_within_iff_plain}
use Rattle.words.proofs.Deletion.{none_iff_no_good}
use Rattle.words.proofs.Kept.{rounds_of_words, through_kept}
use Rattle.words.proofs.Renamed.{renamed_words}
use Rattle.words.proofs.Answer.{good_same, table_good, table_largest}
use Rattle.pairs.specs.Lent.{filled}
use Rattle.rules.specs.declared.Reply.{Reply}
use Rattle.rules.specs.Limits.{next_numbers}
use Rattle.rules.specs.Tables.{Skid, skid_of}
use Rattle.rules.specs.FirstDiscovery.{Discovery}
use Rattle.rules.specs.Continues.{every_input}
use Rattle.rules.specs.Meaning.{NextTable, Legal, table_step, TableWords}
use Rattle.rules.proofs.Legal.{legal_skid}
use Rattle.answers.specs.Plain.{start_set, plain}
use Rattle.answers.specs.Rounds.{is_kept}
use Rattle.answers.specs.Unblocked.{sets_of}
use Rattle.answers.specs.declared.Unsolved.TheVariants.{Nothing}
use Rattle.answers.specs.Solve.{table_found, answer_reply, no_table, plain_solution, solved, Gives}
use Rattle.answers.proofs.Plain.{set_steps, plain_discovered}
use Rattle.answers.proofs.Afresh.{plain_table}
use Rattle.answers.proofs.Solutions.{deleted, fresh, fresh_solution}
use Rattle.verdicts.specs.Checkable.{skid_system}
use Rattle.promises.specs.Solvable.{Solvable, WordsOf}
use Rattle.promises.specs.Buffers.{HoldTable}
use Rattle.promises.specs.Solving.{IsPlainAnswer, IsUnblockedAnswer, IsNone}
use Rattle.promises.proofs.Automaton.{automaton, table_plain, each_state_word}
use Rattle.promises.proofs.Passing.{finite}
use Rattle.promises.proofs.Rounds.{unblocked_is, rounds_are}
use Rattle.promises.proofs.Fresh.{fresh_renamed}
use Rattle.promises.proofs.Filled.{filled_words}
use Rattle.promises.proofs.Holds.{Numbers, hold_table}
use Rattle.promises.proofs.Numbered.{plain_numbers, fresh_numbers}
use Rattle.promises.proofs.Solvable.{zeros_given}

-- a reply has its own values
own_table : (reply : Reply) (states rounds : ℕ) → reply ≡ answer_reply (table_found states rounds) → reply ≡ answer_reply (table_found reply.states reply.rounds)
own_table reply states rounds e = subst (λ r. r ≡ answer_reply (table_found r.states r.rounds)) (sym e) refl

own_none : (reply : Reply) (rounds : ℕ) → reply ≡ answer_reply (Err (Nothing rounds)) → reply ≡ answer_reply (Err (Nothing reply.rounds))
own_none reply rounds e = subst (λ r. r ≡ answer_reply (Err (Nothing r.rounds))) (sym e) refl

module _ (context specification sets next : List ℕ) (reply : Reply) (sets' next' : List ℕ)
    (can : Solvable context specification sets next) (found : (plain (skid_of context specification)).over ≡ false) where
  abbrev k : Skid
  k = skid_of context specification

  abbrev s : System
  s = skid_system context specification

  legal : Legal k
  legal = legal_skid context specification can.context_sound can.specification_sound

  discovery : Discovery (set_steps k) (start_set k) (k.n_u * k.n_v) (plain k)
  discovery = (plain_discovered k).0 found

  table : NextTable (length (plain k).states) (plain k).next
  table = plain_table k found

  -- the words of a buffer that begins with a table are those of the table
  lent_words : {states : ℕ} {reached steps : List ℕ} → Numbers context specification legal states reached steps → next' ≡ filled next_numbers steps next
      → (w : List (Letter s)) → WordsOf context specification next' w ↔ TableWords k every_input steps w
  lent_words {states} {reached} {steps} n e w = subst (λ b. WordsOf context specification b w ↔ TableWords k every_input steps w) (sym e)
      (filled_words k every_input states steps n.steps n.each_step next_numbers next w)

  pub is_plain : Gives (solved sets next (plain_solution (plain (skid_of context specification)))) reply sets' next'
      → IsPlainAnswer context specification sets next reply sets' next'
  unfolding solved plain_solution
  is_plain given = record {
    reply_is = subst (λ r. r ≡ answer_reply (table_found r.states 0)) (sym given.reply_is) refl;
    words = words;
    undoes_composing = λ X closed. (
      λ h w x. (words w).1 ((stays_within_iff_plain s X closed).0 h w x),
      λ h. (stays_within_iff_plain s X closed).1 (λ w x. (words w).0 (h w x)),
    );
    buffers = subst (λ (r : Reply). HoldTable context specification r.states sets next sets' next') (sym given.reply_is)
        (hold_table context specification legal numbers sets next sets' next' given.sets_are given.next_is);
  }
    where
      numbers : Numbers context specification legal (length (plain k).states) (plain k).states (plain k).next
      numbers = plain_numbers context specification legal found

      words : (w : List (Letter s)) → WordsOf context specification next' w ↔ Plain s w
      words w =
          let own = lent_words numbers given.next_is w in
          let plain_words = table_plain k every_input legal (plain k) discovery table w in
          (λ h. plain_words.1 (own.0 h), λ h. own.1 (plain_words.0 h))

  -- ---- deletion
  abbrev m : SetAutomaton s
  m = automaton k every_input legal (plain k) discovery table

  abbrev f : deletion.Finite s m
  f = finite k every_input legal (plain k) discovery table

  rounds : deletion.Rounds s m f (deleted k).rounds
  rounds = rounds_are k every_input legal (plain k) discovery table

  rounds_words : RoundsOfWords s (deleted k).rounds
  rounds_words = rounds_of_words s m f (each_state_word k every_input legal (plain k) discovery table) (deleted k).rounds rounds

  -- the start is kept, in the list and in the theory
  start_kept : is_kept (deleted k).kept 0 ≡ deletion.after s m f (deleted k).rounds 0
  start_kept = (unblocked_is k every_input legal (plain k) discovery table).same 0 table.occupied

  pub is_unblocked : is_kept (deleted (skid_of context specification)).kept 0 ≡ true → Gives (solved sets next (fresh_solution (skid_of context specification))) reply sets' next'
      → IsUnblockedAnswer context specification sets next reply sets' next'
  unfolding solved
  is_unblocked e given = record {
    reply_is = own_table reply (length (fresh k).states) (deleted k).rounds given.reply_is;
    good = good_same s (TableWords k every_input (fresh k).next) (WordsOf context specification next') (λ w. (own w).1) (λ w. (own w).0)
        (table_good s m f (deleted k).rounds rounds kept step 0 renamed);
    largest = λ X g w x. (own w).1 (table_largest s m f (deleted k).rounds rounds kept step 0 renamed X g w x);
    rounds = subst (λ (r : Reply). RoundsOfWords s r.rounds) (sym given.reply_is) rounds_words;
    words = λ w. subst (λ (r : Reply). WordsOf context specification next' w ↔ ThroughKept s r.rounds w) (sym given.reply_is)
        (Iff.trans (own w) (Iff.trans (renamed_words s m (deletion.after s m f (deleted k).rounds) step 0 renamed kept w) (through_kept s m f (deleted k).rounds w)));
    buffers = subst (λ (r : Reply). HoldTable context specification r.states sets next sets' next') (sym given.reply_is)
        (hold_table context specification legal numbers sets next sets' next' given.sets_are given.next_is);
  }
    where
      numbers : Numbers context specification legal (length (fresh k).states) (sets_of (plain k).states (fresh k).states) (fresh k).next
      numbers = fresh_numbers context specification legal found (deleted k).kept

      own : (w : List (Letter s)) → WordsOf context specification next' w ↔ TableWords k every_input (fresh k).next w
      own = lent_words numbers given.next_is

      step : ℕ → Letter s → Option ℕ
      step = table_step k every_input (fresh k).next

      kept : T (deletion.after s m f (deleted k).rounds 0)
      kept = subst T (start_kept) (subst T (sym e) tt)

      renamed : Renamed s m (deletion.after s m f (deleted k).rounds) (table_step k every_input (fresh k).next) 0
      renamed = fresh_renamed k every_input legal (plain k) discovery table (deleted k).kept (deletion.after s m f (deleted k).rounds) (unblocked_is k every_input legal (plain k) discovery table)

  pub is_none : is_kept (deleted (skid_of context specification)).kept 0 ≡ false → Gives (solved sets next (no_table (Err (Nothing (deleted (skid_of context specification)).rounds)))) reply sets' next'
      → IsNone context specification sets next reply sets' next'
  unfolding solved
  is_none e given = record {
    reply_is = own_none reply (deleted k).rounds given.reply_is;
    no_good = (none_iff_no_good s m f (deleted k).rounds rounds).0 (λ t. subst T (sym start_kept ∙ e) t);
    rounds = subst (λ (r : Reply). RoundsOfWords s r.rounds) (sym given.reply_is) rounds_words;
    buffers = zeros_given (Err (Nothing (deleted k).rounds)) given;
  }
