-- Refusals 1 to 7 on small records written by hand from document 01, computed.
-- Assumes nothing.
use mathlib.Core.Path.{◌≡◌, refl}
use Prim.Native.Nat.{ℕ}
use mathlib.Core.List.{List, [], ◌∷◌, map}
use lib.ListN.{replicate}
use Rattle.pairs.specs.Scans.{all_with, less, total}
use Rattle.std.specs.Prelude.{Ok, Err}
use Rattle.rules.specs.declared.Fault.TheVariants.{Length, Kind, Cut, Limit, Code, EqualKey, LowerKey}
use Rattle.rules.specs.Limits.{state_limit}
use Rattle.rules.specs.Layouts.{Layout, context_layout, specification_layout, controller_layout}
use Rattle.rules.specs.Bytes.{little, numbers}
use Rattle.rules.specs.Records.{rows_of}
use Rattle.rules.specs.Replies.{refusal, fine, fault_reply}
use Rattle.rules.specs.Faults.{head_fault, row_fault, rows_fault, Finding, fault}

record Sample : Type 0 where
  bytes : List ℕ
  finding : Finding

abbrev gives : List ℕ → Finding → Sample
gives b f = record { bytes = b; finding = f }

found : Layout → List Sample → List Finding
unfolding less total state_limit context_layout specification_layout controller_layout little numbers rows_of head_fault row_fault rows_fault fault all_with
found l samples = map (λ s. fault l s.bytes) samples

asked : List Sample → List Finding
asked samples = map (λ s. s.finding) samples

contexts : List Sample
contexts =
    -- no rows is legal; fewer than 4 bytes, also where the length is right; one byte too many; one too few
    gives (0x07 ∷ 0 ∷ 0x43 ∷ 0x58 ∷ 1 ∷ 1 ∷ 1 ∷ 1 ∷ 1 ∷ []) (Ok tt) ∷
    gives [] (Err Length) ∷
    gives (0 ∷ 0 ∷ []) (Err Length) ∷
    gives (1 ∷ 0 ∷ 0x43 ∷ []) (Err Length) ∷
    gives (0x07 ∷ 0 ∷ 0x43 ∷ 0x58 ∷ 1 ∷ 1 ∷ 1 ∷ 1 ∷ 1 ∷ 0 ∷ []) (Err Length) ∷
    gives (0x07 ∷ 0 ∷ 0x43 ∷ 0x58 ∷ 1 ∷ 1 ∷ 1 ∷ 1 ∷ []) (Err Length) ∷
    -- another kind, also with nothing behind it
    gives (0x07 ∷ 0 ∷ 0x53 ∷ 0x50 ∷ 1 ∷ 1 ∷ 1 ∷ 1 ∷ 1 ∷ []) (Err Kind) ∷
    gives (0x02 ∷ 0 ∷ 0x43 ∷ 0x59 ∷ []) (Err Kind) ∷
    -- counts cut short; a broken last row, also beside a bad count
    gives (0x02 ∷ 0 ∷ 0x43 ∷ 0x58 ∷ []) (Err Cut) ∷
    gives (0x06 ∷ 0 ∷ 0x43 ∷ 0x58 ∷ 1 ∷ 1 ∷ 1 ∷ 1 ∷ []) (Err Cut) ∷
    gives (0x08 ∷ 0 ∷ 0x43 ∷ 0x58 ∷ 1 ∷ 1 ∷ 1 ∷ 1 ∷ 1 ∷ 0 ∷ []) (Err Cut) ∷
    gives (0x08 ∷ 0 ∷ 0x43 ∷ 0x58 ∷ 0 ∷ 1 ∷ 1 ∷ 1 ∷ 1 ∷ 0 ∷ []) (Err Cut) ∷
    -- each count at 0, at its limit and past it
    gives (0x07 ∷ 0 ∷ 0x43 ∷ 0x58 ∷ 0 ∷ 1 ∷ 1 ∷ 1 ∷ 1 ∷ []) (Err Limit) ∷
    gives (0x07 ∷ 0 ∷ 0x43 ∷ 0x58 ∷ 1 ∷ 0 ∷ 1 ∷ 1 ∷ 1 ∷ []) (Err Limit) ∷
    gives (0x07 ∷ 0 ∷ 0x43 ∷ 0x58 ∷ 1 ∷ 1 ∷ 0 ∷ 1 ∷ 1 ∷ []) (Err Limit) ∷
    gives (0x07 ∷ 0 ∷ 0x43 ∷ 0x58 ∷ 1 ∷ 1 ∷ 1 ∷ 0 ∷ 1 ∷ []) (Err Limit) ∷
    gives (0x07 ∷ 0 ∷ 0x43 ∷ 0x58 ∷ 1 ∷ 1 ∷ 1 ∷ 1 ∷ 0 ∷ []) (Err Limit) ∷
    gives (0x07 ∷ 0 ∷ 0x43 ∷ 0x58 ∷ 8 ∷ 8 ∷ 4 ∷ 4 ∷ 64 ∷ []) (Ok tt) ∷
    gives (0x07 ∷ 0 ∷ 0x43 ∷ 0x58 ∷ 9 ∷ 8 ∷ 4 ∷ 4 ∷ 64 ∷ []) (Err Limit) ∷
    gives (0x07 ∷ 0 ∷ 0x43 ∷ 0x58 ∷ 8 ∷ 9 ∷ 4 ∷ 4 ∷ 64 ∷ []) (Err Limit) ∷
    gives (0x07 ∷ 0 ∷ 0x43 ∷ 0x58 ∷ 8 ∷ 8 ∷ 5 ∷ 4 ∷ 64 ∷ []) (Err Limit) ∷
    gives (0x07 ∷ 0 ∷ 0x43 ∷ 0x58 ∷ 8 ∷ 8 ∷ 4 ∷ 5 ∷ 64 ∷ []) (Err Limit) ∷
    gives (0x07 ∷ 0 ∷ 0x43 ∷ 0x58 ∷ 8 ∷ 8 ∷ 4 ∷ 4 ∷ 65 ∷ []) (Err Limit) ∷
    -- each field at its count; counts I=2, O=3, U=2, V=1, two states, so that no field may take another's count
    gives (0x0D ∷ 0 ∷ 0x43 ∷ 0x58 ∷ 2 ∷ 3 ∷ 2 ∷ 1 ∷ 2 ∷ 1 ∷ 1 ∷ 0 ∷ 1 ∷ 2 ∷ 1 ∷ []) (Ok tt) ∷
    gives (0x0D ∷ 0 ∷ 0x43 ∷ 0x58 ∷ 2 ∷ 3 ∷ 2 ∷ 1 ∷ 2 ∷ 2 ∷ 1 ∷ 0 ∷ 1 ∷ 2 ∷ 1 ∷ []) (Err (Code 0)) ∷
    gives (0x0D ∷ 0 ∷ 0x43 ∷ 0x58 ∷ 2 ∷ 3 ∷ 2 ∷ 1 ∷ 2 ∷ 1 ∷ 2 ∷ 0 ∷ 1 ∷ 2 ∷ 1 ∷ []) (Err (Code 0)) ∷
    gives (0x0D ∷ 0 ∷ 0x43 ∷ 0x58 ∷ 2 ∷ 3 ∷ 2 ∷ 1 ∷ 2 ∷ 1 ∷ 1 ∷ 1 ∷ 1 ∷ 2 ∷ 1 ∷ []) (Err (Code 0)) ∷
    gives (0x0D ∷ 0 ∷ 0x43 ∷ 0x58 ∷ 2 ∷ 3 ∷ 2 ∷ 1 ∷ 2 ∷ 1 ∷ 1 ∷ 0 ∷ 2 ∷ 2 ∷ 1 ∷ []) (Err (Code 0)) ∷
    gives (0x0D ∷ 0 ∷ 0x43 ∷ 0x58 ∷ 2 ∷ 3 ∷ 2 ∷ 1 ∷ 2 ∷ 1 ∷ 1 ∷ 0 ∷ 1 ∷ 3 ∷ 1 ∷ []) (Err (Code 0)) ∷
    gives (0x0D ∷ 0 ∷ 0x43 ∷ 0x58 ∷ 2 ∷ 3 ∷ 2 ∷ 1 ∷ 2 ∷ 1 ∷ 1 ∷ 0 ∷ 1 ∷ 2 ∷ 2 ∷ []) (Err (Code 0)) ∷
    -- keys equal with another next; keys that rise and fall in their last field
    gives (0x13 ∷ 0 ∷ 0x43 ∷ 0x58 ∷ 1 ∷ 2 ∷ 1 ∷ 1 ∷ 2 ∷ 0 ∷ 0 ∷ 0 ∷ 0 ∷ 0 ∷ 0 ∷ 0 ∷ 0 ∷ 0 ∷ 0 ∷ 0 ∷ 1 ∷ []) (Err (EqualKey 1)) ∷
    gives (0x13 ∷ 0 ∷ 0x43 ∷ 0x58 ∷ 1 ∷ 2 ∷ 1 ∷ 1 ∷ 2 ∷ 0 ∷ 0 ∷ 0 ∷ 0 ∷ 0 ∷ 1 ∷ 0 ∷ 0 ∷ 0 ∷ 0 ∷ 1 ∷ 0 ∷ []) (Ok tt) ∷
    gives (0x13 ∷ 0 ∷ 0x43 ∷ 0x58 ∷ 1 ∷ 2 ∷ 1 ∷ 1 ∷ 2 ∷ 0 ∷ 0 ∷ 0 ∷ 0 ∷ 1 ∷ 0 ∷ 0 ∷ 0 ∷ 0 ∷ 0 ∷ 0 ∷ 1 ∷ []) (Err (LowerKey 1)) ∷
    -- a key that rises in its first field and falls in a later one; one that falls in its first and rises in a later one
    gives (0x13 ∷ 0 ∷ 0x43 ∷ 0x58 ∷ 2 ∷ 1 ∷ 1 ∷ 1 ∷ 2 ∷ 0 ∷ 1 ∷ 0 ∷ 0 ∷ 0 ∷ 0 ∷ 1 ∷ 0 ∷ 0 ∷ 0 ∷ 0 ∷ 0 ∷ []) (Ok tt) ∷
    gives (0x13 ∷ 0 ∷ 0x43 ∷ 0x58 ∷ 2 ∷ 1 ∷ 1 ∷ 1 ∷ 2 ∷ 1 ∷ 0 ∷ 0 ∷ 0 ∷ 0 ∷ 0 ∷ 0 ∷ 1 ∷ 0 ∷ 0 ∷ 0 ∷ 0 ∷ []) (Err (LowerKey 1)) ∷
    -- within a row 5 comes before 6, and before 7; an earlier faulty row decides before a later one
    gives (0x13 ∷ 0 ∷ 0x43 ∷ 0x58 ∷ 1 ∷ 2 ∷ 1 ∷ 1 ∷ 2 ∷ 0 ∷ 0 ∷ 0 ∷ 0 ∷ 0 ∷ 0 ∷ 0 ∷ 0 ∷ 0 ∷ 0 ∷ 0 ∷ 2 ∷ []) (Err (Code 1)) ∷
    gives (0x13 ∷ 0 ∷ 0x43 ∷ 0x58 ∷ 1 ∷ 2 ∷ 1 ∷ 1 ∷ 2 ∷ 0 ∷ 0 ∷ 0 ∷ 0 ∷ 1 ∷ 0 ∷ 0 ∷ 0 ∷ 0 ∷ 0 ∷ 0 ∷ 2 ∷ []) (Err (Code 1)) ∷
    gives (0x19 ∷ 0 ∷ 0x43 ∷ 0x58 ∷ 1 ∷ 2 ∷ 1 ∷ 1 ∷ 2 ∷ 0 ∷ 0 ∷ 0 ∷ 0 ∷ 1 ∷ 0 ∷ 0 ∷ 0 ∷ 0 ∷ 0 ∷ 0 ∷ 0 ∷ 2 ∷ 0 ∷ 0 ∷ 0 ∷ 0 ∷ 0 ∷ []) (Err (LowerKey 1)) ∷
    []

-- the key is (state, i, o); 1,024 rows are the limit, before any row is looked at
specifications : List Sample
specifications =
    gives (0x05 ∷ 0 ∷ 0x53 ∷ 0x50 ∷ 8 ∷ 8 ∷ 64 ∷ []) (Ok tt) ∷
    gives (0x05 ∷ 0 ∷ 0x53 ∷ 0x50 ∷ 8 ∷ 8 ∷ 65 ∷ []) (Err Limit) ∷
    gives (0x05 ∷ 0 ∷ 0x53 ∷ 0x50 ∷ 9 ∷ 8 ∷ 64 ∷ []) (Err Limit) ∷
    gives (0x05 ∷ 0 ∷ 0x53 ∷ 0x50 ∷ 8 ∷ 9 ∷ 64 ∷ []) (Err Limit) ∷
    gives (0x05 ∷ 0 ∷ 0x53 ∷ 0x50 ∷ 0 ∷ 8 ∷ 64 ∷ []) (Err Limit) ∷
    gives (0x05 ∷ 0 ∷ 0x53 ∷ 0x50 ∷ 8 ∷ 0 ∷ 64 ∷ []) (Err Limit) ∷
    gives (0x05 ∷ 0 ∷ 0x53 ∷ 0x50 ∷ 8 ∷ 8 ∷ 0 ∷ []) (Err Limit) ∷
    gives (0x04 ∷ 0 ∷ 0x53 ∷ 0x50 ∷ 8 ∷ 8 ∷ []) (Err Cut) ∷
    gives (0x05 ∷ 0 ∷ 0x43 ∷ 0x54 ∷ 1 ∷ 1 ∷ 1 ∷ []) (Err Kind) ∷
    gives (0x09 ∷ 0 ∷ 0x53 ∷ 0x50 ∷ 2 ∷ 3 ∷ 2 ∷ 1 ∷ 1 ∷ 2 ∷ 1 ∷ []) (Ok tt) ∷
    gives (0x09 ∷ 0 ∷ 0x53 ∷ 0x50 ∷ 2 ∷ 3 ∷ 2 ∷ 2 ∷ 1 ∷ 2 ∷ 1 ∷ []) (Err (Code 0)) ∷
    gives (0x09 ∷ 0 ∷ 0x53 ∷ 0x50 ∷ 2 ∷ 3 ∷ 2 ∷ 1 ∷ 2 ∷ 2 ∷ 1 ∷ []) (Err (Code 0)) ∷
    gives (0x09 ∷ 0 ∷ 0x53 ∷ 0x50 ∷ 2 ∷ 3 ∷ 2 ∷ 1 ∷ 1 ∷ 3 ∷ 1 ∷ []) (Err (Code 0)) ∷
    gives (0x09 ∷ 0 ∷ 0x53 ∷ 0x50 ∷ 2 ∷ 3 ∷ 2 ∷ 1 ∷ 1 ∷ 2 ∷ 2 ∷ []) (Err (Code 0)) ∷
    gives (0x0D ∷ 0 ∷ 0x53 ∷ 0x50 ∷ 1 ∷ 2 ∷ 2 ∷ 0 ∷ 0 ∷ 0 ∷ 0 ∷ 0 ∷ 0 ∷ 0 ∷ 1 ∷ []) (Err (EqualKey 1)) ∷
    gives (0x0D ∷ 0 ∷ 0x53 ∷ 0x50 ∷ 1 ∷ 2 ∷ 2 ∷ 0 ∷ 0 ∷ 1 ∷ 0 ∷ 0 ∷ 0 ∷ 0 ∷ 1 ∷ []) (Err (LowerKey 1)) ∷
    gives (0x05 ∷ 0x10 ∷ 0x53 ∷ 0x50 ∷ 1 ∷ 1 ∷ 1 ∷ replicate 4096 0) (Err (EqualKey 1)) ∷
    gives (0x09 ∷ 0x10 ∷ 0x53 ∷ 0x50 ∷ 1 ∷ 1 ∷ 1 ∷ replicate 4100 0) (Err Limit) ∷
    []

-- states in two bytes, the low byte first: 256, 512 and 513; a row of state 256 to 255, to 256, to 257
controllers : List Sample
controllers =
    gives (0x06 ∷ 0 ∷ 0x43 ∷ 0x54 ∷ 4 ∷ 4 ∷ 0 ∷ 1 ∷ []) (Ok tt) ∷
    gives (0x06 ∷ 0 ∷ 0x43 ∷ 0x54 ∷ 4 ∷ 4 ∷ 0 ∷ 2 ∷ []) (Ok tt) ∷
    gives (0x06 ∷ 0 ∷ 0x43 ∷ 0x54 ∷ 4 ∷ 4 ∷ 1 ∷ 2 ∷ []) (Err Limit) ∷
    gives (0x06 ∷ 0 ∷ 0x43 ∷ 0x54 ∷ 5 ∷ 4 ∷ 0 ∷ 2 ∷ []) (Err Limit) ∷
    gives (0x06 ∷ 0 ∷ 0x43 ∷ 0x54 ∷ 4 ∷ 5 ∷ 0 ∷ 2 ∷ []) (Err Limit) ∷
    gives (0x06 ∷ 0 ∷ 0x43 ∷ 0x54 ∷ 0 ∷ 4 ∷ 0 ∷ 2 ∷ []) (Err Limit) ∷
    gives (0x06 ∷ 0 ∷ 0x43 ∷ 0x54 ∷ 4 ∷ 0 ∷ 0 ∷ 2 ∷ []) (Err Limit) ∷
    gives (0x06 ∷ 0 ∷ 0x43 ∷ 0x54 ∷ 4 ∷ 4 ∷ 0 ∷ 0 ∷ []) (Err Limit) ∷
    gives (0x05 ∷ 0 ∷ 0x43 ∷ 0x54 ∷ 4 ∷ 4 ∷ 0 ∷ []) (Err Cut) ∷
    gives (0x06 ∷ 0 ∷ 0x43 ∷ 0x58 ∷ 4 ∷ 4 ∷ 0 ∷ 1 ∷ []) (Err Kind) ∷
    gives (0x0C ∷ 0 ∷ 0x43 ∷ 0x54 ∷ 2 ∷ 3 ∷ 1 ∷ 1 ∷ 0 ∷ 1 ∷ 1 ∷ 2 ∷ 255 ∷ 0 ∷ []) (Ok tt) ∷
    gives (0x0C ∷ 0 ∷ 0x43 ∷ 0x54 ∷ 2 ∷ 3 ∷ 1 ∷ 1 ∷ 0 ∷ 1 ∷ 1 ∷ 2 ∷ 0 ∷ 1 ∷ []) (Ok tt) ∷
    gives (0x0C ∷ 0 ∷ 0x43 ∷ 0x54 ∷ 2 ∷ 3 ∷ 1 ∷ 1 ∷ 0 ∷ 1 ∷ 1 ∷ 2 ∷ 1 ∷ 1 ∷ []) (Err (Code 0)) ∷
    gives (0x0C ∷ 0 ∷ 0x43 ∷ 0x54 ∷ 2 ∷ 3 ∷ 1 ∷ 1 ∷ 1 ∷ 1 ∷ 1 ∷ 2 ∷ 0 ∷ 0 ∷ []) (Err (Code 0)) ∷
    gives (0x0C ∷ 0 ∷ 0x43 ∷ 0x54 ∷ 2 ∷ 3 ∷ 1 ∷ 1 ∷ 0 ∷ 1 ∷ 2 ∷ 2 ∷ 0 ∷ 0 ∷ []) (Err (Code 0)) ∷
    gives (0x0C ∷ 0 ∷ 0x43 ∷ 0x54 ∷ 2 ∷ 3 ∷ 1 ∷ 1 ∷ 0 ∷ 1 ∷ 1 ∷ 3 ∷ 0 ∷ 0 ∷ []) (Err (Code 0)) ∷
    gives (0x12 ∷ 0 ∷ 0x43 ∷ 0x54 ∷ 1 ∷ 2 ∷ 1 ∷ 1 ∷ 255 ∷ 0 ∷ 0 ∷ 1 ∷ 0 ∷ 0 ∷ 0 ∷ 1 ∷ 0 ∷ 0 ∷ 0 ∷ 0 ∷ []) (Ok tt) ∷
    gives (0x12 ∷ 0 ∷ 0x43 ∷ 0x54 ∷ 1 ∷ 2 ∷ 1 ∷ 1 ∷ 255 ∷ 0 ∷ 0 ∷ 1 ∷ 0 ∷ 0 ∷ 255 ∷ 0 ∷ 0 ∷ 1 ∷ 1 ∷ 0 ∷ []) (Err (EqualKey 1)) ∷
    gives (0x12 ∷ 0 ∷ 0x43 ∷ 0x54 ∷ 1 ∷ 2 ∷ 1 ∷ 1 ∷ 255 ∷ 0 ∷ 0 ∷ 1 ∷ 0 ∷ 0 ∷ 255 ∷ 0 ∷ 0 ∷ 0 ∷ 1 ∷ 0 ∷ []) (Err (LowerKey 1)) ∷
    []

contexts_found : found context_layout contexts ≡ asked contexts
unfolding found asked contexts
contexts_found = refl

specifications_found : found specification_layout specifications ≡ asked specifications
unfolding found asked specifications
specifications_found = refl

controllers_found : found controller_layout controllers ≡ asked controllers
unfolding found asked controllers
controllers_found = refl

-- the number and the row of each finding, in a reply for record 3
numbered : map (fault_reply 3) (Ok tt ∷ Err Length ∷ Err Kind ∷ Err Cut ∷ Err Limit ∷ Err (Code 4) ∷ Err (EqualKey 4) ∷ Err (LowerKey 4) ∷ []) ≡
    fine ∷ refusal 1 3 0 0 ∷ refusal 2 3 0 0 ∷ refusal 3 3 0 0 ∷ refusal 4 3 0 0 ∷ refusal 5 3 4 0 ∷ refusal 6 3 4 0 ∷ refusal 7 3 4 0 ∷ []
unfolding fault_reply
numbered = refl
