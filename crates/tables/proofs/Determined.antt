-- The predicates of the public functions determine the outcome.
-- Assumes nothing.
use mathlib.Core.Path.{◌≡◌, refl, sym, ap, ◌∙◌}
use mathlib.Core.Bool.{Bool, true, false}
use mathlib.Core.List.{List}
use Prim.Native.Nat.{ℕ, ◌<◌}
use lib.Dec.{ltb}
use lib.ListN.{get_or}
use borrow.Author.Tests.{ltb-true, ltb-false}
use Rattle.std.proofs.lemmas.List.{ext_get_or}
use Rattle.rules.specs.Limits.{state_limit}
use Rattle.std.specs.Prelude.{Option, Result}
use Rattle.pairs.specs.declared.CtxState.{CtxState}
use Rattle.pairs.specs.declared.SpecState.{SpecState}
use Rattle.pairs.proofs.Determined.{determined}
use Rattle.rules.specs.declared.Counts.{Counts}
use Rattle.rules.specs.declared.ContextRow.{ContextRow}
use Rattle.rules.specs.declared.StateRows.{StateRows}
use Rattle.tables.specs.declared.Sizes.{Sizes}
use Rattle.tables.specs.declared.ready.ReadySkid.{ReadySkid}
use Rattle.tables.specs.declared.skids.SkidCounts.{SkidCounts}
use Rattle.rules.specs.declared.Refusal.{Refusal}
use Rattle.tables.specs.declared.discovery.StateTable.{StateTable}
use Rattle.tables.specs.declared.discovery.Discovered.{Discovered}
use Rattle.tables.specs.Discovery.{number_of}
use Rattle.tables.specs.States.{StatesDiscovered, DiscoveredInto}
use Rattle.tables.specs.Ready.{RowsRead, SpecificationStepped, AnsweringAll, ContinuingFrom}
use Rattle.tables.specs.Skids.{RecordsRead, SidedBy, OutsideMatched, PairsFew, RoomFound}
use Rattle.tables.specs.Steps.{NextRead, SpecificationNextRead, ControllerNextRead}
use Rattle.tables.specs.Usable.{Answering, Continuing}

pub records_read_determined : (context specification : List ℕ) (r s : Result SkidCounts Refusal) → RecordsRead context specification r → RecordsRead context specification s → r ≡ s
records_read_determined context specification r s = determined

pub sided_determined : (c s : Counts) (states : ℕ) (y z : Sizes) → SidedBy c s states y → SidedBy c s states z → y ≡ z
sided_determined c s states y z = determined

pub outside_matched_determined : (k : SkidCounts) (r s : Result Unit Refusal) → OutsideMatched k r → OutsideMatched k s → r ≡ s
outside_matched_determined k r s = determined

pub pairs_few_determined : (k : SkidCounts) (r s : Result Unit Refusal) → PairsFew k r → PairsFew k s → r ≡ s
pairs_few_determined k r s = determined

pub room_found_determined : (lent needed : ℕ) (r s : Result Unit Refusal) → RoomFound lent needed r → RoomFound lent needed s → r ≡ s
room_found_determined lent needed r s = determined

pub next_read_determined : (width : ℕ) (table : List ℕ) (s t r q : ℕ) → NextRead width table s t r → NextRead width table s t q → r ≡ q
next_read_determined width table s t r q = determined

pub specification_next_read_determined : (outputs steps : ℕ) (table : List ℕ) (c : SpecState) (row : ContextRow) (r q : ℕ)
    → SpecificationNextRead outputs steps table c row r → SpecificationNextRead outputs steps table c row q → r ≡ q
specification_next_read_determined outputs steps table c row r q = determined

pub controller_next_read_determined : (replies letters : ℕ) (table : List ℕ) (s : ℕ) (row : ContextRow) (r q : ℕ)
    → ControllerNextRead replies letters table s row r → ControllerNextRead replies letters table s row q → r ≡ q
controller_next_read_determined replies letters table s row r q = determined

pub answering_determined : (n_u n_v : ℕ) (next : List ℕ) (s : ℕ) (b d : Bool) → Answering n_u n_v next s b → Answering n_u n_v next s d → b ≡ d
answering_determined n_u n_v next s b d = determined

pub continuing_determined : (context index : List ℕ) (a : CtxState) (next : List ℕ) (inputs replies letters s : ℕ) (b d : Bool)
    → Continuing context index a next inputs replies letters s b → Continuing context index a next inputs replies letters s d → b ≡ d
continuing_determined context index a next inputs replies letters s b d = determined

pub rows_read_determined : (r : ReadySkid) (a : CtxState) (x y : StateRows) → RowsRead r a x → RowsRead r a y → x ≡ y
rows_read_determined r a x y = determined

pub specification_stepped_determined : (r : ReadySkid) (c : SpecState) (row : ContextRow) (x y : Option SpecState)
    → SpecificationStepped r c row x → SpecificationStepped r c row y → x ≡ y
specification_stepped_determined r c row x y = determined

pub answering_all_determined : (r : ReadySkid) (next : List ℕ) (s : ℕ) (b d : Bool) → AnsweringAll r next s b → AnsweringAll r next s d → b ≡ d
answering_all_determined r next s b d = determined

pub continuing_from_determined : (r : ReadySkid) (a : CtxState) (next : List ℕ) (s : ℕ) (b d : Bool) → ContinuingFrom r a next s b → ContinuingFrom r a next s d → b ≡ d
continuing_from_determined r a next s b d = determined

module _ (t : StateTable) (d e : Discovered) (f : StatesDiscovered t d) (g : StatesDiscovered t e) where
  order_same : d.order.items ≡ e.order.items
  order_same = determined f.order_is g.order_is

  number_same : d.number ≡ e.number
  number_same = ext_get_or 0 d.number e.number (determined f.room g.room) (λ x h. go x (rw f.room at h) (ltb x t.states) refl)
    where
      go : (x : ℕ) → x < state_limit → (b : Bool) → ltb x t.states ≡ b → get_or d.number x 0 ≡ get_or e.number x 0
      go x h true p =
          let inside : x < t.states = ltb-true x t.states p in
          f.numbers x inside ∙ ap (λ xs. number_of xs x) order_same ∙ sym (g.numbers x inside)
      go x h false p = determined (f.others x (ltb-false x t.states p) h) (g.others x (ltb-false x t.states p) h)

  both_same : d ≡ e
  both_same =
      ap (λ xs. record { order = record { items = xs }; number = d.number }) order_same
      ∙ ap (λ n. record { order = e.order; number = n }) number_same

pub states_discovered_determined : (t : StateTable) (d e : Discovered) → StatesDiscovered t d → StatesDiscovered t e → d ≡ e
states_discovered_determined t d e f g = both_same t d e f g

pub discovered_into_determined : (t : StateTable) (before d e : Discovered) → DiscoveredInto t before d → DiscoveredInto t before e → d ≡ e
discovered_into_determined t before d e f g = both_same t d e f g
