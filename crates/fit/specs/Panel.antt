-- Document 01, "the panel takes the record reading and the check": what the entries for reading answer. The entry for writing has the predicate of
-- the function that it calls, `ControllerWritten`.
-- Assumes nothing.
use Rattle.std.specs.Prelude.{◌≡◌, ℕ, List}
use Rattle.rules.specs.declared.Reply.{Reply}
use Rattle.rules.specs.declared.Kind.TheVariants.{Context, Specification}
use Rattle.rules.specs.Reading.{Reading, reading_reply, reading_counts, read_record, read_controller}
use Rattle.fit.specs.declared.Controller.{Controller}

-- a context, or a specification: the reply alone, which gives the states of "the table read"
abbrev pub ContextReplied : List ℕ → Reply → Type 0
ContextReplied b r = r ≡ reading_reply (read_record Context b)

abbrev pub SpecificationReplied : List ℕ → Reply → Type 0
SpecificationReplied b r = r ≡ reading_reply (read_record Specification b)

-- a controller: the five numbers of the reply; "and returns U and V; on refusal .. 0 for both"
abbrev pub controller_reply : Reading → Controller
controller_reply r = record {
  number = (reading_reply r).number;
  «record» = (reading_reply r).«record»;
  row = (reading_reply r).row;
  states = (reading_reply r).states;
  rounds = (reading_reply r).rounds;
  u = (reading_counts r).u;
  v = (reading_counts r).v;
}

-- "Reading a controller fills 8,192 numbers of 16 bits as above and returns U and V": for every slice of bytes and every lent table
pub record ControllerReplied (b next : List ℕ) (r : Controller) (next' : List ℕ) : Type 0 where
  pub reply_is : r ≡ controller_reply (read_controller b next).reading
  pub next_is : next' ≡ (read_controller b next).next
