-- Document 01, "Signals and tables": the counts of a record, by their names.
-- Assumes nothing.
use Rattle.std.specs.Prelude.{◌≡◌, ℕ, List, get_or}
use Rattle.rules.specs.declared.Counts.{Counts}
use Rattle.rules.specs.declared.Kind.{Kind}
use Rattle.rules.specs.declared.Kind.TheVariants.{Context, Specification, Controller}
use Rattle.rules.specs.Layouts.{context_layout, specification_layout, controller_layout}
use Rattle.rules.specs.Records.{counts_in, row_count}

-- "I, O, U, V, states"
abbrev pub context_counts : List ℕ → Counts
context_counts b =
    let c : List ℕ = counts_in context_layout b in
    record { i = get_or c 0 0; o = get_or c 1 0; u = get_or c 2 0; v = get_or c 3 0; states = get_or c 4 0; rows = row_count context_layout b }

-- "I, O, states"
abbrev pub specification_counts : List ℕ → Counts
specification_counts b =
    let c : List ℕ = counts_in specification_layout b in
    record { i = get_or c 0 0; o = get_or c 1 0; u = 0; v = 0; states = get_or c 2 0; rows = row_count specification_layout b }

-- "U, V, states"
abbrev pub controller_counts : List ℕ → Counts
controller_counts b =
    let c : List ℕ = counts_in controller_layout b in
    record { i = 0; o = 0; u = get_or c 0 0; v = get_or c 1 0; states = get_or c 2 0; rows = row_count controller_layout b }

-- of a refused record: "0 for both"
abbrev pub no_counts : Counts
no_counts = record { i = 0; o = 0; u = 0; v = 0; states = 0; rows = 0 }

-- the counts that the bytes of a record say, whether it is legal or not: a byte that is not there counts as 0
abbrev pub counts_of : Kind → List ℕ → Counts
counts_of Context b = context_counts b
counts_of Specification b = specification_counts b
counts_of Controller b = controller_counts b

abbrev pub CountsRead : Kind → List ℕ → Counts → Type 0
CountsRead kind b r = r ≡ counts_of kind b
