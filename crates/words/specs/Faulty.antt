-- What is wrong with a set of controller words that is not a good controller: a word that shows it, by each of the three demands.
-- Assumes nothing.
use Rattle.std.specs.Prelude.{◌≡◌, List, [], ◌∷◌, ◌++◌}
use Rattle.std.proofs.Math.Option.{some}
use Rattle.words.specs.Words.{run, Words}
use Rattle.words.specs.System.{System, Letter, Combined, controller_word, outside_word, Specified}

module _ (s : System) (X : Words (Letter s)) where
  open s use {U, R, Input, Step, input, C, c0, spc, asked}

  -- not "takes every context signal": after a word of X some u has no reply; in a table, "a state reached by its own rows has no row for some u"
  pub record LacksReply : Type 0 where
    pub word : List (Letter s)
    pub member : X word
    pub u : U
    pub no_reply : (r : R) → ¬ X (word ++ ((u, r) ∷ []))

  -- not "stays within the specification": a combined word over X has an outside word that the specification cannot run
  pub record LeavesSpecification : Type 0 where
    pub word : List Step
    pub combined : Combined s word
    pub member : X (controller_word s word)
    pub not_within : ¬ Specified s (outside_word s word)

  -- not "leaves the joined skid a continuation for every irrigation signal": after a combined word over X, within the specification, which is then in
  -- the state c, some i asked for there has no step of the context that X goes along with
  pub record LacksContinuation : Type 0 where
    pub word : List Step
    pub combined : Combined s word
    pub member : X (controller_word s word)
    pub c : C
    pub within : run spc c0 (outside_word s word) ≡ some c
    pub i : Input
    pub wanted : asked c i
    pub no_step : ¬ ((x : Step) × (input x ≡ i) × Combined s (word ++ (x ∷ [])) × X (controller_word s (word ++ (x ∷ []))))
