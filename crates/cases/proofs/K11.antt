-- K11: "10 states: 512 plain states. 11 states: 11.", and both parts of the buffers are zero then. So the promise about 11 says something: of 11 states more than
-- 512 plain words reach pairwise different sets.
-- Assumes nothing.
use Rattle.std.specs.Prelude.{Err}
use mathlib.Core.Path.{◌≡◌, refl, ap}
use mathlib.Core.Logic.{inl, inr}
use mathlib.Core.List.{List, [], ◌∷◌, ◌++◌}
use Prim.Native.Nat.{ℕ}
use lib.ListN.{replicate}
use Rattle.rules.specs.Replies.{success, refusal}
use Rattle.rules.specs.Skids.{free_two}
use Rattle.answers.specs.declared.Unsolved.TheVariants.{TooMany}
use Rattle.answers.specs.Solve.{answer_reply, solve}
use Rattle.answers.specs.Skids.{computed}
use Rattle.promises.specs.Solvable.{TooManySets}
use Rattle.promises.proofs.Promises.{kept}
use Rattle.cases.specs.K11.{k11, k11_solved}

pub ten_states : (k11_solved 10).reply ≡ success 512 0
unfolding k11_solved
ten_states = refl

pub eleven_states : k11_solved 11 ≡ record { reply = refusal 11 0 0 0; sets = replicate 512 0 ++ (7 ∷ 7 ∷ []); next = replicate 8192 0 ++ (9 ∷ 9 ∷ []) }
unfolding k11_solved
eleven_states = refl

-- where the definition gives 11, the promise gives the words
many_words : (context specification sets next : List ℕ) → (solve 0 context specification sets next).reply.number ≡ (answer_reply (Err TooMany)).number → TooManySets context specification
many_words context specification sets next e =
    let keeps = kept.solving 0 context specification sets next (solve 0 context specification sets next).reply (solve 0 context specification sets next).sets
    (solve 0 context specification sets next).next (record { reply_is = refl; sets_are = refl; next_is = refl }) in
    let ((w, m), can) = keeps.given (inr (inl e)) in
    (keeps.too_many w m can).0 e

pub eleven_too_many : TooManySets (k11 11) free_two
unfolding k11_solved computed
eleven_too_many = many_words (k11 11) free_two (replicate 514 7) (replicate 8194 9) (ap (λ o. o.reply.number) eleven_states)
