-- Document 01, "Signals and tables": the three kinds of record.
-- Assumes nothing.
use Rattle.std.specs.Prelude.{ℕ, List, [], ◌∷◌}
use Rattle.rules.specs.declared.Kind.{Kind}
use Rattle.rules.specs.declared.Kind.TheVariants.{Context, Specification, Controller}
use Rattle.rules.specs.Limits.{state_limit}

-- a kind of record: its two bytes; the bytes that each count takes, and the count's limit; the bytes that each field of a row takes, and the
-- place of the count that the field stays below; how many fields are the key; the limit of the rows
pub record Layout : Type 0 where
  pub kind : List ℕ
  pub count_sizes : List ℕ
  pub limits : List ℕ
  pub field_sizes : List ℕ
  pub below : List ℕ
  pub key_size : ℕ
  pub row_limit : ℕ

-- "context: I, O, U, V, states, one byte each; rows of 6 bytes"; (state, i, v, u, o, next)
unfoldable pub context_layout : Layout
context_layout = record {
  kind = 0x43 ∷ 0x58 ∷ [];
  count_sizes = 1 ∷ 1 ∷ 1 ∷ 1 ∷ 1 ∷ [];
  limits = 8 ∷ 8 ∷ 4 ∷ 4 ∷ 64 ∷ [];
  field_sizes = 1 ∷ 1 ∷ 1 ∷ 1 ∷ 1 ∷ 1 ∷ [];
  below = 4 ∷ 0 ∷ 3 ∷ 2 ∷ 1 ∷ 4 ∷ [];
  key_size = 5;
  row_limit = 4096;
}

-- "specification: I, O, states; rows of 4 bytes"; (state, i, o, next)
unfoldable pub specification_layout : Layout
specification_layout = record {
  kind = 0x53 ∷ 0x50 ∷ [];
  count_sizes = 1 ∷ 1 ∷ 1 ∷ [];
  limits = 8 ∷ 8 ∷ 64 ∷ [];
  field_sizes = 1 ∷ 1 ∷ 1 ∷ 1 ∷ [];
  below = 2 ∷ 0 ∷ 1 ∷ 2 ∷ [];
  key_size = 3;
  row_limit = 1024;
}

-- "controller: U, V, states (2 bytes); rows of 6 bytes with state and next in 2 bytes each"; (state, u, v, next)
unfoldable pub controller_layout : Layout
controller_layout = record {
  kind = 0x43 ∷ 0x54 ∷ [];
  count_sizes = 1 ∷ 1 ∷ 2 ∷ [];
  limits = 4 ∷ 4 ∷ state_limit ∷ [];
  field_sizes = 2 ∷ 1 ∷ 1 ∷ 2 ∷ [];
  below = 2 ∷ 0 ∷ 1 ∷ 2 ∷ [];
  key_size = 3;
  row_limit = 8192;
}

abbrev pub layout_of : Kind → Layout
layout_of Context = context_layout
layout_of Specification = specification_layout
layout_of Controller = controller_layout

-- "record (1 context, 2 specification, 3 controller ..)"
abbrev pub record_number : Kind → ℕ
record_number Context = 1
record_number Specification = 2
record_number Controller = 3
