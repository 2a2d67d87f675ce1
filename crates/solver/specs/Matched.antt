-- What solving makes of the counts of two records that were read: refusals 8, 9 and 10, as in `solve_refusal`, and what its private functions have of their
-- input. No promise to a caller names these.
-- Assumes nothing.
use Rattle.std.specs.Prelude.{◌≡◌, ℕ, ◌*◌, ◌&&◌, List, Result, Ok, Err, leb, eqb, length}
use Rattle.pairs.specs.Sets.{pair_limit}
use Rattle.rules.specs.declared.Reply.{Reply}
use Rattle.rules.specs.declared.Counts.{Counts}
use Rattle.rules.specs.Limits.{set_numbers, next_numbers}
use Rattle.rules.specs.declared.Refusal.{Refusal}
use Rattle.rules.specs.Replies.{unless, ◌or_else◌, refusal_reply}
use Rattle.rules.specs.Tables.{specification_table}
use Rattle.tables.specs.declared.Sizes.{Sizes}
use Rattle.tables.specs.Workable.{Workable}
use Rattle.tables.specs.declared.skids.SkidCounts.{SkidCounts}
use Rattle.tables.specs.Skids.{outcome_reply}
use Rattle.solver.specs.Long.{Long}
use Rattle.answers.specs.Solve.{Answer, answer_reply}

-- "8; 9; 10": of the counts of context and specification, and of so many lent numbers for sets and for next states
unfoldable pub match_refusal : Counts → Counts → ℕ → ℕ → Reply
match_refusal c s sets next =
    unless (eqb c.i s.i && eqb c.o s.o) 8 2 or_else
    unless (leb (c.states * s.states) pair_limit) 9 0 or_else
    unless (leb set_numbers sets && leb next_numbers next) 10 0

-- the refusal, as a reply, is that of the counts of two records and of so many lent numbers
abbrev pub Matching : SkidCounts → ℕ → ℕ → Result Unit Refusal → Type 0
Matching k sets next r = outcome_reply r ≡ match_refusal k.context k.specification sets next

-- the two match: the skid is within the limits, the specification's table is as long as the counts say, and the lent buffers are long enough
pub record Matched (z : Sizes) (context specification sets next : List ℕ) : Type 0 where
  pub workable : Workable z context (specification_table specification)
  pub table_long : length (specification_table specification) ≡ z.specifications * z.steps
  pub long : Long sets next

-- the reply of what two records give: their answer, or a refusal
abbrev pub reply_of : Result Answer Refusal → Reply
reply_of (Ok answer) = answer_reply answer
reply_of (Err refused) = refusal_reply refused
