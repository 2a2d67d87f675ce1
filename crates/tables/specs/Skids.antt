-- The two records of a skid as check and solving take them: read in document 01's order, their counts side by side, and what is refused of two that do not
-- match.
-- Assumes nothing.
use Rattle.std.specs.Prelude.{◌≡◌, ℕ, ◌*◌, Bool, ◌&&◌, List, Result, Ok, Err, leb, eqb, if◌then◌else◌}
use Rattle.pairs.specs.Sets.{pair_limit}
use Rattle.rules.specs.declared.Reply.{Reply}
use Rattle.rules.specs.declared.Counts.{Counts}
use Rattle.rules.specs.declared.Kind.TheVariants.{Context, Specification}
use Rattle.rules.specs.declared.Refusal.{Refusal}
use Rattle.rules.specs.declared.Refusal.TheVariants.{Codes, Pairs, Room}
use Rattle.rules.specs.Layouts.{context_layout, specification_layout}
use Rattle.rules.specs.Counts.{context_counts, specification_counts}
use Rattle.rules.specs.Faults.{fault}
use Rattle.rules.specs.Reading.{Reading, read_record}
use Rattle.rules.specs.Replies.{fine, refusal_reply}
use Rattle.tables.specs.declared.Sizes.{Sizes}
use Rattle.tables.specs.declared.skids.SkidCounts.{SkidCounts}

-- two records, one after the other: the first refusal, or the counts of both
unfoldable pub both_read : Reading → Reading → Result SkidCounts Refusal
both_read (Ok c) (Ok s) = Ok (record { context = c; specification = s })
both_read (Ok c) (Err refused) = Err refused
both_read (Err refused) (Ok s) = Err refused
both_read (Err refused) (Err later) = Err refused

-- "context 1 to 4, then rows ..; the same for the specification"
unfoldable pub skid_reading : List ℕ → List ℕ → Result SkidCounts Refusal
skid_reading context specification = both_read (read_record Context context) (read_record Specification specification)

-- the counts of both, whether they are legal or not
abbrev pub skid_counts : List ℕ → List ℕ → SkidCounts
skid_counts context specification = record { context = context_counts context; specification = specification_counts specification }

-- what is known so far, as a reply: no refusal yet, or the refusal
abbrev pub outcome_reply : {A : Type 0} → Result A Refusal → Reply
outcome_reply (Ok _) = fine
outcome_reply (Err refused) = refusal_reply refused

-- a refusal unless the test passes
unfoldable pub ok_if : Bool → Refusal → Result Unit Refusal
ok_if test refused = if test then Ok tt else Err refused

-- one after the other: the first refusal, or what the second gives
infixr 20 ◌and_then◌
unfoldable pub ◌and_then◌ : {A B : Type 0} → Result A Refusal → Result B Refusal → Result B Refusal
(Ok _) and_then b = b
(Err refused) and_then b = Err refused

-- the counts of context and specification, and so many states of the table beside them
abbrev pub sizes_of : Counts → Counts → ℕ → Sizes
sizes_of c s states = record {
  inputs = c.i;
  outputs = c.o;
  signals = c.u;
  replies = c.v;
  letters = c.u * c.v;
  steps = c.i * c.o;
  contexts = c.states;
  specifications = s.states;
  states = states;
}

-- what the functions ensure, for every two slices of bytes, and for all counts
abbrev pub RecordsRead : List ℕ → List ℕ → Result SkidCounts Refusal → Type 0
RecordsRead context specification r = r ≡ skid_reading context specification

abbrev pub SidedBy : Counts → Counts → ℕ → Sizes → Type 0
SidedBy c s states r = r ≡ sizes_of c s states

-- 8: "I or O differ (record 2)"; 9: "product of states over 64"; 10, of so many numbers lent and needed
abbrev pub OutsideMatched : SkidCounts → Result Unit Refusal → Type 0
OutsideMatched k r = r ≡ ok_if (eqb k.context.i k.specification.i && eqb k.context.o k.specification.o) (Codes Specification)

abbrev pub PairsFew : SkidCounts → Result Unit Refusal → Type 0
PairsFew k r = r ≡ ok_if (leb (k.context.states * k.specification.states) pair_limit) Pairs

abbrev pub RoomFound : ℕ → ℕ → Result Unit Refusal → Type 0
RoomFound lent needed r = r ≡ ok_if (leb needed lent) Room

-- the two records were read, without fault, and these are their counts
pub record SkidRead (context specification : List ℕ) (k : SkidCounts) : Type 0 where
  pub context_sound : fault context_layout context ≡ Ok tt
  pub specification_sound : fault specification_layout specification ≡ Ok tt
  pub counts_are : k ≡ skid_counts context specification
