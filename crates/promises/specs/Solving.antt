-- What each answer of solving says, in the words of the theory: of the reply and of the lent buffers at the end.
-- Assumes nothing.
use Rattle.std.specs.Prelude.{◌≡◌, ◌↔◌, List, ℕ, Err}
use Rattle.words.specs.Words.{Words, ◌⊆◌, PrefixClosed}
use Rattle.words.specs.System.{Letter, Plain, StaysWithin, Good}
use Rattle.words.specs.Kept.{RoundsOfWords, ThroughKept}
use Rattle.rules.specs.declared.Reply.{Reply}
use Rattle.answers.specs.declared.Unsolved.TheVariants.{TooMany, Nothing}
use Rattle.answers.specs.Solve.{table_found, answer_reply}
use Rattle.verdicts.specs.Checkable.{skid_system}
use Rattle.promises.specs.Solvable.{WordsOf}
use Rattle.promises.specs.Buffers.{HoldTable, HoldZeros}

module _ (context specification sets next : List ℕ) (reply : Reply) (sets' next' : List ℕ) where
  -- 0 in mode 0
  pub record IsPlainAnswer : Type 1 where
    pub reply_is : reply ≡ answer_reply (table_found reply.states 0)
    pub words : (w : List (Letter (skid_system context specification))) → WordsOf context specification next' w ↔ Plain (skid_system context specification) w
    -- "a set of behaviours that holds the beginnings of each of its members, joined to the context, stays within the specification exactly when it
    -- lies inside the plain answer"
    pub undoes_composing : (X : Words (Letter (skid_system context specification))) → PrefixClosed X
        → StaysWithin (skid_system context specification) X ↔ (X ⊆ WordsOf context specification next')
    pub buffers : HoldTable context specification reply.states sets next sets' next'

  -- 0 in mode 1
  pub record IsUnblockedAnswer : Type 1 where
    pub reply_is : reply ≡ answer_reply (table_found reply.states reply.rounds)
    -- "The unblocked answer stays within the specification, takes every context signal, and leaves the joined skid a continuation for every irrigation
    -- signal. It contains every controller, of any size, that does these three"
    pub good : Good (skid_system context specification) (WordsOf context specification next')
    pub largest : (X : Words (Letter (skid_system context specification))) → Good (skid_system context specification) X → X ⊆ WordsOf context specification next'
    -- the rounds as 01 counts them, and the answer as it defines it by them
    pub rounds : RoundsOfWords (skid_system context specification) reply.rounds
    pub words : (w : List (Letter (skid_system context specification)))
        → WordsOf context specification next' w ↔ ThroughKept (skid_system context specification) reply.rounds w
    pub buffers : HoldTable context specification reply.states sets next sets' next'

  -- 12
  pub record IsNone : Type 1 where
    pub reply_is : reply ≡ answer_reply (Err (Nothing reply.rounds))
    pub no_good : (X : Words (Letter (skid_system context specification))) → ¬ Good (skid_system context specification) X
    pub rounds : RoundsOfWords (skid_system context specification) reply.rounds
    pub buffers : HoldZeros sets next sets' next'

  -- 11
  pub record IsTooMany : Type 0 where
    pub reply_is : reply ≡ answer_reply (Err TooMany)
    pub buffers : HoldZeros sets next sets' next'
