-- The rounds of the definitions are the rounds of the theory: the list of what is kept after each of them, and how many are counted.
-- Assumes nothing.
use Rattle.std.specs.Prelude.{if◌then◌else◌}
use mathlib.Core.Path.{◌≡◌, refl, sym, ap, ap₂, subst, ◌∙◌}
use mathlib.Core.Logic.{⊎_elim}
use mathlib.Core.Bool.{Bool, true, false, ◌&&◌}
use mathlib.Core.List.{List}
use Prim.Native.Nat.{ℕ, zero, suc, ◌*◌, ◌<◌}
use lib.Dec.{T}
use lib.ListN.{length, length-map, length-replicate, get_or-replicate}
use lib.Seq.{ext_get_or}
use Rattle.words.specs.Sets.{SetAutomaton}
use Rattle.words.specs.Deletion.{Finite, after, Deletes, Rounds}
use Rattle.words.proofs.Answer.{numbers, numbers_listed}
use Rattle.words.proofs.Count.{find}
use Rattle.pairs.specs.Scans.{left}
use Rattle.pairs.proofs.Lists.{length_left}
use Rattle.rules.specs.Tables.{Skid}
use Rattle.rules.specs.Discover.{Numbered}
use Rattle.rules.specs.FirstDiscovery.{Discovery}
use Rattle.rules.specs.Meaning.{NextTable, Legal, system}
use Rattle.answers.specs.Plain.{start_set}
use Rattle.answers.specs.Rounds.{is_kept, round}
use Rattle.answers.specs.Unblocked.{passes, unblocked}
use Rattle.answers.proofs.Plain.{set_steps}
use Rattle.answers.proofs.Rounds.{after_rounds, length_round, round_at}
use Rattle.answers.proofs.Unblocked.{kept_after_lem, each_deletes, last_is_last}
use Rattle.promises.proofs.Automaton.{automaton}
use Rattle.promises.proofs.Passing.{kept_list, list_same, finite}

-- the list of what is kept says of the states below n what κ says
pub record KeptAs (n : ℕ) (kept : List Bool) (κ : ℕ → Bool) : Type 0 where
  pub lengths : length kept ≡ n
  pub same : (q : ℕ) → q < n → is_kept kept q ≡ κ q

-- there is only one such list
one_list : (n : ℕ) (kept : List Bool) (κ : ℕ → Bool) → KeptAs n kept κ → kept ≡ kept_list n κ
one_list n kept κ h = ext_get_or false kept (kept_list n κ) (h.lengths ∙ sym (length-map (left 0 n) κ ∙ length_left n)) λ q l.
    let hq : q < n = subst (λ n. q < n) h.lengths l in
    h.same q hq ∙ sym (list_same n κ q hq)

-- the definitions write a conjunction as a pick
if_and : (a b : Bool) → (if a then b else false) ≡ (a && b)
if_and true b = refl
if_and false b = refl

-- a conjunction that follows from its first part is that part
and_same : (a b : Bool) → (T a → T (a && b)) → (a && b) ≡ a
and_same true true h = refl
and_same true false h = absurd (h tt)
and_same false b h = refl

module _ (k : Skid) (asked : ℕ → ℕ → Bool) (legal : Legal k) (d : Numbered)
    (found : Discovery (set_steps k) (start_set k) (k.n_u * k.n_v) d) (table : NextTable (length d.states) d.next) where
  abbrev n : ℕ
  n = length d.states

  abbrev m : SetAutomaton (system k asked)
  m = automaton k asked legal d found table

  abbrev f : Finite (system k asked) m
  f = finite k asked legal d found table

  -- what is kept after j rounds: the list, and the theory's test
  abbrev list_after : ℕ → List Bool
  list_after = after_rounds n (passes k d.states d.next asked)

  abbrev kept_after : ℕ → ℕ → Bool
  kept_after = after (system k asked) m f

  abbrev rounds : ℕ
  rounds = (unblocked k d.states d.next asked).rounds

  -- round by round the list keeps what the theory keeps, for the test of the one is the test of the other
  pub kept_as : (j : ℕ) → KeptAs (length d.states) (after_rounds (length d.states) (passes k d.states d.next asked) j)
      (after (system k asked) (automaton k asked legal d found table) (finite k asked legal d found table) j)
  unfolding finite
  kept_as zero = record { lengths = length-replicate n true; same = λ q h. get_or-replicate n q true false h }
  kept_as (suc j) =
      let rest = kept_as j in
      record {
        lengths = length_round n (passes k d.states d.next asked) (list_after j);
        same = λ q h. round_at n (passes k d.states d.next asked) (list_after j) q h
            ∙ ap₂ (λ a b. if a then b else false) (rest.same q h) (ap (λ l. passes k d.states d.next asked l q) (one_list n (list_after j) (kept_after j) rest))
            ∙ if_and (kept_after j q) (f.pass (kept_after j) q);
      }

  -- a round that loses no state leaves the list as it is
  list_equal : (j : ℕ) → ((q : ℕ) → q < n → kept_after (suc j) q ≡ kept_after j q) → list_after (suc j) ≡ list_after j
  list_equal j h = ext_get_or false (list_after (suc j)) (list_after j) ((kept_as (suc j)).lengths ∙ sym (kept_as j).lengths) λ q l.
      let hq : q < n = subst (λ n. q < n) (kept_as (suc j)).lengths l in
      (kept_as (suc j)).same q hq ∙ h q hq ∙ sym ((kept_as j).same q hq)

  -- so does what is kept at the end
  pub unblocked_is : KeptAs (length d.states) (unblocked k d.states d.next asked).kept
      (after (system k asked) (automaton k asked legal d found table) (finite k asked legal d found table) (unblocked k d.states d.next asked).rounds)
  unblocked_is = subst (λ l. KeptAs n l (kept_after rounds)) (sym (kept_after_lem k d.states d.next asked)) (kept_as rounds)

  -- a round that changes the list deletes a state
  deletes : (j : ℕ) → ¬ (list_after (suc j) ≡ list_after j) → (q : ℕ) × Deletes (system k asked) m f j q
  deletes j other = ⊎_elim
      (λ lost. let (q, mq, t, gone) = lost in (q, ((numbers_listed n q).1 mq, t, gone)))
      (λ stay. absurd (other (list_equal j (λ q h. and_same (kept_after j q) (f.pass (kept_after j) q) (stay q ((numbers_listed n q).0 h))))))
      (find (kept_after j) (kept_after (suc j)) (numbers n))

  -- a further round changes nothing
  last_same : list_after (suc rounds) ≡ list_after rounds
  last_same = subst (λ l. round n (passes k d.states d.next asked) l ≡ l) (kept_after_lem k d.states d.next asked) (last_is_last k d.states d.next asked)

  -- the rounds that are counted are those that the theory counts
  pub rounds_are : Rounds (system k asked) (automaton k asked legal d found table) (finite k asked legal d found table) (unblocked k d.states d.next asked).rounds
  rounds_are = record {
    deleting = λ j h. deletes j (each_deletes k d.states d.next asked j h);
    done = λ q lost.
        let (h, t, gone) = lost in
        gone (subst T (sym ((kept_as rounds).same q h) ∙ ap (λ l. is_kept l q) (sym last_same) ∙ (kept_as (suc rounds)).same q h) t);
  }
