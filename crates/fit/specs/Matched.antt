-- What the check makes of the counts of three records that were read: refusals 8, 9 and 10, as in `check_refusal`, and what its private functions have of
-- their input. No promise to a caller names these.
-- Assumes nothing.
use Rattle.std.specs.Prelude.{◌≡◌, ℕ, ◌*◌, ◌≤◌, ◌&&◌, List, Result, Ok, Err, leb, eqb, length, take}
use Rattle.pairs.specs.Sets.{pair_limit}
use Rattle.rules.specs.declared.Reply.{Reply}
use Rattle.rules.specs.declared.Counts.{Counts}
use Rattle.rules.specs.declared.Refusal.{Refusal}
use Rattle.rules.specs.declared.Refusal.TheVariants.{Codes, Pairs, Room}
use Rattle.rules.specs.declared.Kind.TheVariants.{Specification, Controller}
use Rattle.rules.specs.Limits.{set_numbers}
use Rattle.rules.specs.Replies.{refusal_reply}
use Rattle.rules.specs.Tables.{specification_table}
use Rattle.tables.specs.declared.Sizes.{Sizes}
use Rattle.tables.specs.declared.skids.SkidCounts.{SkidCounts}
use Rattle.tables.specs.Skids.{ok_if, ◌and_then◌}
use Rattle.fit.specs.Ready.{Ready}

-- 8: "U or V differ (record 3)"
abbrev pub LettersMatched : Counts → Counts → Result Unit Refusal → Type 0
LettersMatched c t r = r ≡ ok_if (eqb c.u t.u && eqb c.v t.v) (Codes Controller)

-- "8 (record 2 first), 9, 10": of the counts of the skid's records and of the controller, and of so many lent numbers
unfoldable pub match_refusal : SkidCounts → Counts → ℕ → Result Unit Refusal
match_refusal k t room =
    ok_if (eqb k.context.i k.specification.i && eqb k.context.o k.specification.o) (Codes Specification) and_then
    ok_if (eqb k.context.u t.u && eqb k.context.v t.v) (Codes Controller) and_then
    ok_if (leb (k.context.states * k.specification.states) pair_limit) Pairs and_then
    ok_if (leb set_numbers room) Room

-- the three match: all that is judged is ready, the specification's table is as long as the counts say, and the controller's stands at the front of `next`
pub record Matched (z : Sizes) (context specification next sets : List ℕ) : Type 0 where
  pub ready : Ready z context (specification_table specification) (take (z.states * z.letters) next)
  pub table_long : length (specification_table specification) ≡ z.specifications * z.steps
  pub next_long : z.states * z.letters ≤ length next
  pub room : set_numbers ≤ length sets

-- the reply of a check that was not refused, or that of the refusal
abbrev pub checked_reply : Result Reply Refusal → Reply
checked_reply (Ok reply) = reply
checked_reply (Err refused) = refusal_reply refused
