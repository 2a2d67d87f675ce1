-- Document 01, "Order for solving" and "For the check": the refusals of a skid's records, 8 and 9.
-- Assumes nothing.
use Rattle.std.specs.Prelude.{ℕ, ◌*◌, Bool, ◌&&◌, List, leb, eqb}
use Rattle.pairs.specs.Sets.{pair_limit}
use Rattle.rules.specs.declared.Reply.{Reply}
use Rattle.rules.specs.declared.Counts.{Counts}
use Rattle.rules.specs.Layouts.{context_layout, specification_layout}
use Rattle.rules.specs.Counts.{context_counts, specification_counts, controller_counts}
use Rattle.rules.specs.Replies.{unless, ◌or_else◌, record_refusal}

-- "context 1 to 4, then rows, where the first faulty row decides and within it 5, 6, 7; the same for the specification"
unfoldable pub skid_refusal : List ℕ → List ℕ → Reply
skid_refusal context specification =
    record_refusal 1 context_layout context or_else
    record_refusal 2 specification_layout specification

-- 8: "I or O differ (record 2)"
unfoldable pub outside_agree : List ℕ → List ℕ → Bool
outside_agree context specification =
    let c : Counts = context_counts context in
    let s : Counts = specification_counts specification in
    eqb c.i s.i && eqb c.o s.o

unfoldable pub outside_refusal : List ℕ → List ℕ → Reply
outside_refusal context specification = unless (outside_agree context specification) 8 2

-- 8: "U or V differ (record 3)"
unfoldable pub letters_agree : List ℕ → List ℕ → Bool
letters_agree context controller =
    let c : Counts = context_counts context in
    let t : Counts = controller_counts controller in
    eqb c.u t.u && eqb c.v t.v

unfoldable pub letters_refusal : List ℕ → List ℕ → Reply
letters_refusal context controller = unless (letters_agree context controller) 8 3

-- 9: "product of states over 64"
unfoldable pub product_fits : List ℕ → List ℕ → Bool
product_fits context specification = leb ((context_counts context).states * (specification_counts specification).states) pair_limit

unfoldable pub product_refusal : List ℕ → List ℕ → Reply
product_refusal context specification = unless (product_fits context specification) 9 0
