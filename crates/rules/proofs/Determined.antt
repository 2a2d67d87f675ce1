-- The predicates of the public functions determine the outcome: reply, counts, and lent buffers at the end.
-- Assumes nothing.
use mathlib.Core.Path.{◌≡◌}
use mathlib.Core.Bool.{Bool}
use mathlib.Core.List.{List}
use Prim.Native.Nat.{ℕ}
use Rattle.pairs.specs.declared.CtxState.{CtxState}
use Rattle.pairs.proofs.Determined.{determined}
use Rattle.rules.specs.declared.Reply.{Reply}
use Rattle.rules.specs.declared.Kind.{Kind}
use Rattle.rules.specs.declared.Counts.{Counts}
use Rattle.rules.specs.declared.ContextRow.{ContextRow}
use Rattle.rules.specs.declared.StateRows.{StateRows}
use Rattle.rules.specs.Zeros.{SetsZeroed, NextZeroed}
use Rattle.rules.specs.Counts.{CountsRead}
use Rattle.rules.specs.Faults.{Limited}
use Rattle.rules.specs.Tables.{SpecificationFilled}
use Rattle.rules.specs.ContextRows.{ContextRowRead, StateRowsFound, RowFound, RowsIndexed}
use Rattle.rules.specs.Replies.{Succeeded, RefusedAt, Refused}
use Rattle.rules.specs.Reading.{Reading, RecordRead, ContextRead, SpecificationRead, ControllerRead}
use Rattle.rules.specs.Writing.{ControllerWritten}

pub succeeded_determined : (states rounds : ℕ) (r s : Reply) → Succeeded states rounds r → Succeeded states rounds s → r ≡ s
succeeded_determined states rounds r s = determined

pub refused_at_determined : (number table row : ℕ) (r s : Reply) → RefusedAt number table row r → RefusedAt number table row s → r ≡ s
refused_at_determined number table row r s = determined

pub refused_determined : (number table : ℕ) (r s : Reply) → Refused number table r → Refused number table s → r ≡ s
refused_determined number table r s = determined

pub record_determined : (kind : Kind) (b : List ℕ) (r s : Reading) → RecordRead kind b r → RecordRead kind b s → r ≡ s
record_determined kind b r s = determined

pub context_determined : (b : List ℕ) (r s : Reading) → ContextRead b r → ContextRead b s → r ≡ s
context_determined b r s = determined

pub specification_determined : (b : List ℕ) (r s : Reading) → SpecificationRead b r → SpecificationRead b s → r ≡ s
specification_determined b r s = determined

pub controller_determined : (b next : List ℕ) (r s : Reading) (n m : List ℕ) → ControllerRead b next r n → ControllerRead b next s m → (r ≡ s) × (n ≡ m)
controller_determined b next r s n m x y = (determined x.reading_is y.reading_is, determined x.next_is y.next_is)

pub written_determined : (n_u n_v states : ℕ) (next buffer : List ℕ) (start : ℕ) (r s : Reply) (a b : List ℕ)
    → ControllerWritten n_u n_v states next buffer start r a → ControllerWritten n_u n_v states next buffer start s b → (r ≡ s) × (a ≡ b)
written_determined n_u n_v states next buffer start r s a b x y = (determined x.reply_is y.reply_is, determined x.buffer_is y.buffer_is)

pub counts_determined : (kind : Kind) (b : List ℕ) (r s : Counts) → CountsRead kind b r → CountsRead kind b s → r ≡ s
counts_determined kind b r s = determined

pub limited_determined : (kind : Kind) (counts : List ℕ) (r s : Bool) → Limited kind counts r → Limited kind counts s → r ≡ s
limited_determined kind counts r s = determined

pub filled_determined : (b table t u : List ℕ) → SpecificationFilled b table t → SpecificationFilled b table u → t ≡ u
filled_determined b table t u = determined

pub row_determined : (b : List ℕ) (k : ℕ) (r s : ContextRow) → ContextRowRead b k r → ContextRowRead b k s → r ≡ s
row_determined b k r s = determined

pub state_rows_determined : (b : List ℕ) (a : CtxState) (from : ℕ) (r s : StateRows) → StateRowsFound b a from r → StateRowsFound b a from s → r ≡ s
state_rows_determined b a from r s = determined

pub row_found_determined : (b : List ℕ) (a : CtxState) (i v u o r s : ℕ) → RowFound b a i v u o r → RowFound b a i v u o s → r ≡ s
row_found_determined b a i v u o r s = determined

pub rows_indexed_determined : (b : List ℕ) (states : ℕ) (index r s : List ℕ) → RowsIndexed b states index r → RowsIndexed b states index s → r ≡ s
rows_indexed_determined b states index r s = determined

pub sets_zeroed_determined : (sets : List ℕ) (n : ℕ) (r s : List ℕ) → SetsZeroed sets n r → SetsZeroed sets n s → r ≡ s
sets_zeroed_determined sets n r s = determined

pub next_zeroed_determined : (next : List ℕ) (from : ℕ) (r s : List ℕ) → NextZeroed next from r → NextZeroed next from s → r ≡ s
next_zeroed_determined next from r s = determined
