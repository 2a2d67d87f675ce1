-- What the promises say of the reply and of the lent buffers, in words alone, leaves one outcome only: two tables that run the same words are one, and so are two
-- plain answers, two unblocked answers or "none", and two outcomes of which all is kept that is promised of solving.
-- Assumes nothing.
use Rattle.std.specs.Prelude.{Some, Err}
use mathlib.Core.Path.{◌≡◌, refl, sym, ap, subst, ◌∙◌}
use mathlib.Core.Logic.Iff
use mathlib.Core.Logic.{◌↔◌, ◌⊎◌, inl, inr}
use mathlib.Core.Bool.{Bool, true, false}
use mathlib.Core.List.{List}
use Prim.Native.Nat.{ℕ, ◌<◌}
use lib.Dec.{eqb}
use lib.ListN.{get_or}
use lib.Seq.{ext_get_or}
use borrow.Author.Tests.{eqb-true, eqb-false}
use Rattle.words.specs.Words.{run, ◌⊆◌}
use Rattle.words.specs.System.{Letter}
use Rattle.words.proofs.Words.{known, is_some}
use Rattle.words.proofs.Kept.{rounds_words_unique}
use Rattle.pairs.specs.Sets.{empty}
use Rattle.pairs.specs.Lent.{filled, encoded_sets}
use Rattle.pairs.proofs.Determined.{determined}
use Rattle.rules.specs.declared.Reply.{Reply}
use Rattle.rules.specs.Limits.{set_numbers, next_numbers}
use Rattle.rules.specs.Tables.{Skid, skid_of}
use Rattle.rules.specs.Continues.{every_input}
use Rattle.rules.specs.Meaning.{table_step, TableWords}
use Rattle.answers.specs.declared.Wanted.{Wanted}
use Rattle.answers.specs.declared.Wanted.TheVariants.{Plain, Unblocked}
use Rattle.answers.specs.declared.Unsolved.TheVariants.{TooMany, Nothing}
use Rattle.answers.specs.Solve.{table_found, mode_of, answer_reply}
use Rattle.verdicts.specs.Checkable.{skid_system}
use Rattle.promises.specs.Solvable.{Solvable, TooManySets, WordsOf}
use Rattle.promises.specs.Buffers.{LeadsTo, HoldTable, HoldZeros}
use Rattle.promises.specs.Solving.{IsPlainAnswer, IsUnblockedAnswer, IsNone, IsTooMany}
use Rattle.promises.specs.Promises.{OfSolving}
use Rattle.promises.proofs.SamePairs.{pairs_same}
use Rattle.promises.proofs.Filled.{filled_words}
use Rattle.promises.proofs.OneNumbering.{Ordered, Follows, one_numbering}

-- ---- two tables that are held as the promises say, and run the same words
module _ (context specification : List ℕ) where
  abbrev k : Skid
  k = skid_of context specification

  module _ {n : ℕ} {sets next a b : List ℕ} (x : HoldTable context specification n sets next a b) where
    -- the words of the buffer are those of the table
    held_words : (w : List (Letter (skid_system context specification))) → WordsOf context specification b w ↔ TableWords k every_input x.table w
    unfolding skid_of
    held_words w = subst (λ b. WordsOf context specification b w ↔ TableWords k every_input x.table w) (sym x.next_is)
        (filled_words k every_input n x.table x.steps x.each_step next_numbers next w)

    ordered : Ordered k every_input n x.table
    unfolding skid_of
    ordered = record { size = x.each_step; steps = x.steps; words = x.each_reached; in_order = x.first_discovery }

  -- words that lead to one state reach one set, and so lead to one state in the other table
  follows : {n m : ℕ} {sets next a b a' b' : List ℕ} (x : HoldTable context specification n sets next a b) (y : HoldTable context specification m sets next a' b')
      → WordsOf context specification b ⊆ WordsOf context specification b' → Follows k every_input x.table y.table
  follows x y same = record {
    runs = λ w q e. known (run (table_step k every_input y.table) 0 w) ((held_words y w).0 (same w ((held_words x w).1 (is_some e))));
    one = λ w w' q p p' e e' d d'. y.different w w' p p' d d' (λ a c. Iff.trans (Iff.symm (x.exactly w q e a c)) (x.exactly w' q e' a c));
  }

  -- the same table has the same sets: those that the words of its states reach
  same_reached : {n m : ℕ} {sets next a b a' b' : List ℕ} (x : HoldTable context specification n sets next a b) (y : HoldTable context specification m sets next a' b')
      → n ≡ m → x.table ≡ y.table → x.reached ≡ y.reached
  unfolding skid_of
  same_reached x y states table = ext_get_or empty x.reached y.reached (x.each_state ∙ states ∙ sym y.each_state) (λ q h.
      let (w, e) = x.each_reached q (subst (λ l. q < l) x.each_state h) in
      pairs_same k (get_or x.reached q empty) (get_or y.reached q empty) (x.only_pairs q) (y.only_pairs q)
      (λ a c. Iff.trans (x.exactly w q e a c) (Iff.symm (y.exactly w q (subst (λ t. LeadsTo context specification t w q) table e) a c))))

pub table_determined : (context specification sets next : List ℕ) (n m : ℕ) (a b a' b' : List ℕ)
    → HoldTable context specification n sets next a b → HoldTable context specification m sets next a' b'
    → ((w : List (Letter (skid_system context specification))) → WordsOf context specification b w ↔ WordsOf context specification b' w)
    → (n ≡ m) × (a ≡ a') × (b ≡ b')
table_determined context specification sets next n m a b a' b' x y same =
    let (states, table) = one_numbering (skid_of context specification) every_input (ordered context specification x) (ordered context specification y)
    (follows context specification x y (λ w. (same w).0)) (follows context specification y x (λ w. (same w).1)) in (
      states,
      x.sets_are ∙ ap (λ l. filled set_numbers (encoded_sets l) sets) (same_reached context specification x y states table) ∙ sym y.sets_are,
      x.next_is ∙ ap (λ t. filled next_numbers t next) table ∙ sym y.next_is,
    )

-- ---- the answers
module _ (context specification sets next : List ℕ) (r s : Reply) (a b n m : List ℕ) where
  -- both run the plain words
  pub plain_answer_determined : IsPlainAnswer context specification sets next r a n → IsPlainAnswer context specification sets next s b m → (r ≡ s) × (a ≡ b) × (n ≡ m)
  plain_answer_determined x y =
      let (states, e, d) = table_determined context specification sets next r.states s.states a n b m x.buffers y.buffers
      (λ w. Iff.trans (x.words w) (Iff.symm (y.words w))) in
      (x.reply_is ∙ ap (λ l. answer_reply (table_found l 0)) states ∙ sym y.reply_is, e, d)

  zeros_determined : HoldZeros sets next a n → HoldZeros sets next b m → (a ≡ b) × (n ≡ m)
  zeros_determined x y = (determined x.sets_are y.sets_are, determined x.next_is y.next_is)

  -- each of two largest good sets of words lies inside the other; and where there is a good set, the answer is not "none"
  pub unblocked_answer_determined : IsUnblockedAnswer context specification sets next r a n ⊎ IsNone context specification sets next r a n
      → IsUnblockedAnswer context specification sets next s b m ⊎ IsNone context specification sets next s b m → (r ≡ s) × (a ≡ b) × (n ≡ m)
  unblocked_answer_determined (inl x) (inl y) =
      let rounds = rounds_words_unique (skid_system context specification) r.rounds s.rounds x.rounds y.rounds in
      let (states, e, d) = table_determined context specification sets next r.states s.states a n b m x.buffers y.buffers
      (λ w. (y.largest (WordsOf context specification n) x.good w, x.largest (WordsOf context specification m) y.good w)) in
      (x.reply_is ∙ ap (λ l. answer_reply (table_found l r.rounds)) states ∙ ap (λ l. answer_reply (table_found s.states l)) rounds ∙ sym y.reply_is, e, d)
  unblocked_answer_determined (inl x) (inr y) = absurd (y.no_good (WordsOf context specification n) x.good)
  unblocked_answer_determined (inr x) (inl y) = absurd (x.no_good (WordsOf context specification m) y.good)
  unblocked_answer_determined (inr x) (inr y) =
      let rounds = rounds_words_unique (skid_system context specification) r.rounds s.rounds x.rounds y.rounds in
      let (e, d) = zeros_determined x.buffers y.buffers in
      (x.reply_is ∙ ap (λ l. answer_reply (Err (Nothing l))) rounds ∙ sym y.reply_is, e, d)

  pub too_many_determined : IsTooMany context specification sets next r a n → IsTooMany context specification sets next s b m → (r ≡ s) × (a ≡ b) × (n ≡ m)
  too_many_determined x y = let (e, d) = zeros_determined x.buffers y.buffers in (determined x.reply_is y.reply_is, e, d)

  -- all that is promised of solving leaves one outcome, wherever 0, 11 or 12 is given
  pub solving_determined : (mode : ℕ) (w : Wanted) → mode_of mode ≡ Some w → Solvable context specification sets next
      → OfSolving mode context specification sets next r a n → OfSolving mode context specification sets next s b m → (r ≡ s) × (a ≡ b) × (n ≡ m)
  solving_determined mode w e can x y = go (eqb r.number (answer_reply (Err TooMany)).number) refl
    where
      wanted : (w : Wanted) → mode_of mode ≡ Some w → (¬ TooManySets context specification) → (r ≡ s) × (a ≡ b) × (n ≡ m)
      wanted Plain e few = plain_answer_determined (x.plain e can few) (y.plain e can few)
      wanted Unblocked e few = unblocked_answer_determined (x.unblocked e can few) (y.unblocked e can few)

      go : (t : Bool) → eqb r.number (answer_reply (Err TooMany)).number ≡ t → (r ≡ s) × (a ≡ b) × (n ≡ m)
      go true d =
          let z : r.number ≡ (answer_reply (Err TooMany)).number = eqb-true r.number (answer_reply (Err TooMany)).number d in
          too_many_determined (x.too_many_is z) (y.too_many_is ((y.too_many w e can).1 ((x.too_many w e can).0 z)))
      go false d = wanted w e (λ many. eqb-false r.number (answer_reply (Err TooMany)).number d ((x.too_many w e can).1 many))
