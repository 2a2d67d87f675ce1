-- The two records of a skid, one after the other: the first that is refused gives the refusal; where none is, both are without fault and the counts are theirs.
-- Assumes nothing.
use Rattle.std.specs.Prelude.{Result, Ok, Err}
use mathlib.Core.Path.{◌≡◌, refl, sym, ap, ◌∙◌}
use mathlib.Core.Bool.{false}
use mathlib.Core.List.{List}
use Prim.Native.Nat.{ℕ}
use Rattle.std.proofs.lemmas.Result.{err_from_is_err_and}
use Rattle.rules.specs.declared.Counts.{Counts}
use Rattle.rules.specs.declared.Fault.{Fault}
use Rattle.rules.specs.declared.Refusal.{Refusal}
use Rattle.rules.specs.declared.Refusal.TheVariants.{Record}
use Rattle.rules.specs.declared.Kind.TheVariants.{Context, Specification}
use Rattle.rules.specs.Layouts.{context_layout, specification_layout}
use Rattle.rules.specs.Counts.{context_counts, specification_counts}
use Rattle.rules.specs.Faults.{Finding, fault}
use Rattle.rules.specs.Replies.{fine, refuses, ◌or_else◌, fault_reply, record_refusal, refusal_reply}
use Rattle.rules.specs.Matching.{skid_refusal}
use Rattle.rules.specs.Reading.{Reading, read_unless, read_record}
use Rattle.rules.proofs.Replied.{fault_some}
use Rattle.tables.specs.declared.skids.SkidCounts.{SkidCounts}
use Rattle.tables.specs.Skids.{both_read, skid_reading, skid_counts, outcome_reply, SkidRead}

none_after : (r : Refusal) (s : Reading) → both_read (Err r) s ≡ Err r
unfolding both_read
none_after r (Ok s) = refl
none_after r (Err s) = refl

module _ (context specification : List ℕ) where
  -- ---- as the code reads them
  pub context_refused : (r : Refusal) → Err r ≡ read_record Context context → Err r ≡ skid_reading context specification
  unfolding skid_reading
  context_refused r e = sym (rw (← e) (none_after r (read_record Specification specification)))

  module _ (c : Counts) (legal : Ok c ≡ read_record Context context) where
    pub specification_refused : (r : Refusal) → Err r ≡ read_record Specification specification → Err r ≡ skid_reading context specification
    unfolding skid_reading both_read
    specification_refused r e = rw (← legal, ← e)

    pub both_legal : (s : Counts) → Ok s ≡ read_record Specification specification → Ok (record { context = c; specification = s }) ≡ skid_reading context specification
    unfolding skid_reading both_read
    both_legal s e = rw (← legal, ← e)

  -- ---- by what is found in each
  abbrev reading_of : Finding → Finding → Result SkidCounts Refusal
  reading_of f g = both_read (read_unless Context f (context_counts context)) (read_unless Specification g (specification_counts specification))

  reading_legal : reading_of (Ok tt) (Ok tt) ≡ Ok (skid_counts context specification)
  unfolding both_read read_unless
  reading_legal = refl

  reading_late : (g : Fault) → reading_of (Ok tt) (Err g) ≡ Err (Record Specification g)
  unfolding both_read read_unless
  reading_late g = refl

  reading_early : (f : Fault) (g : Finding) → reading_of (Err f) g ≡ Err (Record Context f)
  unfolding both_read read_unless
  reading_early f (Ok u) = refl
  reading_early f (Err g) = refl

  reading_is : skid_reading context specification ≡ reading_of (fault context_layout context) (fault specification_layout specification)
  unfolding skid_reading read_record
  reading_is = refl

  replied_as : (f g : Finding) → outcome_reply (reading_of f g) ≡ (fault_reply 1 f or_else fault_reply 2 g)
  unfolding both_read read_unless fault_reply ◌or_else◌
  replied_as (Ok u) (Ok w) = refl
  replied_as (Ok u) (Err g) = refl
  replied_as (Err f) (Ok w) = rw (fault_some f)
  replied_as (Err f) (Err g) = rw (fault_some f)

  -- ---- as a reply it is the refusal of both; it is a refusal exactly where they are refused, and else their counts
  pub skid_replied : outcome_reply (skid_reading context specification) ≡ skid_refusal context specification
  unfolding skid_refusal record_refusal
  skid_replied = ap outcome_reply reading_is ∙ replied_as (fault context_layout context) (fault specification_layout specification)

  pub skid_refused : (r : Refusal) → Err r ≡ skid_reading context specification → refusal_reply r ≡ skid_refusal context specification
  skid_refused r e = ap outcome_reply e ∙ skid_replied

  pub skid_read : (k : SkidCounts) → Ok k ≡ skid_reading context specification → SkidRead context specification k
  skid_read k e = told (fault context_layout context) refl (fault specification_layout specification) refl (e ∙ reading_is)
    where
      told : (f : Finding) → fault context_layout context ≡ f → (g : Finding) → fault specification_layout specification ≡ g → Ok k ≡ reading_of f g → SkidRead context specification k
      told (Ok u) p (Ok w) q h = record { context_sound = p; specification_sound = q; counts_are = let same : Ok k ≡ Ok (skid_counts context specification) = h ∙ reading_legal in cc }
      told (Ok u) p (Err g) q h = let other : Ok k ≡ Err (Record Specification g) = h ∙ reading_late g in absurd cc
      told (Err f) p (Ok w) q h = let other : Ok k ≡ Err (Record Context f) = h ∙ reading_early f (Ok w) in absurd cc
      told (Err f) p (Err g) q h = let other : Ok k ≡ Err (Record Context f) = h ∙ reading_early f (Err g) in absurd cc

  pub skid_fine : (k : SkidCounts) → SkidRead context specification k → refuses (skid_refusal context specification) ≡ false
  unfolding skid_refusal record_refusal fault_reply ◌or_else◌
  skid_fine k skid = rw (skid.context_sound, skid.specification_sound)

  pub skid_counted : (k : SkidCounts) → SkidRead context specification k → Ok k ≡ skid_reading context specification
  unfolding skid_reading read_record read_unless both_read
  skid_counted k skid = rw (skid.context_sound, skid.specification_sound, skid.counts_are)

  pub skid_passes : (k : SkidCounts) → SkidRead context specification k → fine ≡ skid_refusal context specification
  skid_passes k skid = ap outcome_reply (skid_counted k skid) ∙ skid_replied

-- what `read_skid` needs: an error that `?` hands on stays the same
pub ruleset skid_reads = (err_from_is_err_and, context_refused, specification_refused, both_legal)
