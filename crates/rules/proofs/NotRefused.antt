-- Chains of refusals: where the whole does not refuse, no part does, and each test passed; the number of the whole is that of a part.
-- Assumes nothing.
use Rattle.std.specs.Prelude.{Ok, Err, if◌then◌else◌}
use mathlib.Core.Path.{◌≡◌, refl, sym, ap, ◌∙◌}
use mathlib.Core.Bool.{Bool, true, false, not, true≢false}
use mathlib.Core.List.{List}
use Prim.Native.Nat.{ℕ, ◌≤◌}
use native.Mathlib.Omega.{arith}
use lib.Dec.{eqb}
use Rattle.rules.specs.declared.Reply.{Reply}
use Rattle.rules.specs.declared.Fault.{Fault}
use Rattle.rules.specs.declared.Fault.TheVariants.{Length, Kind, Cut, Limit, Code, EqualKey, LowerKey}
use Rattle.rules.specs.Layouts.{Layout}
use Rattle.rules.specs.Faults.{fault_number, Finding, fault}
use Rattle.rules.specs.Replies.{refuses, unless, ◌or_else◌, fault_reply, record_refusal}

-- where neither of two refuses
pub or_else_fine : (a b : Reply) → refuses (a or_else b) ≡ false → (refuses a ≡ false) × (refuses b ≡ false)
unfolding ◌or_else◌
or_else_fine a b = go (refuses a) refl
  where
    go : (c : Bool) → refuses a ≡ c → refuses (if c then a else b) ≡ false → (refuses a ≡ false) × (refuses b ≡ false)
    go true p e = absurd (true≢false (sym p ∙ e))
    go false p e = (p, e)

pub unless_fine : (test : Bool) (number table : ℕ) → eqb number 0 ≡ false → refuses (unless test number table) ≡ false → test ≡ true
unfolding unless
unless_fine true number table n e = refl
unless_fine false number table n e = absurd (true≢false (sym (ap not n) ∙ e))

-- numbers up to n
module _ (n : ℕ) where
  pub or_else_most : (a b : Reply) → a.number ≤ n → b.number ≤ n → (a or_else b).number ≤ n
  unfolding ◌or_else◌
  or_else_most a b h k = go (refuses a)
    where
      go : (c : Bool) → (if c then a else b).number ≤ n
      go true = h
      go false = k

  pub unless_most : (test : Bool) (number table : ℕ) → number ≤ n → (unless test number table).number ≤ n
  unfolding unless
  unless_most true number table h = omega arith
  unless_most false number table h = h

fault_most : (f : Fault) → fault_number f ≤ 7
fault_most Length = omega arith
fault_most Kind = omega arith
fault_most Cut = omega arith
fault_most Limit = omega arith
fault_most (Code row) = omega arith
fault_most (EqualKey row) = omega arith
fault_most (LowerKey row) = omega arith

pub record_most : (table : ℕ) (l : Layout) (b : List ℕ) → (record_refusal table l b).number ≤ 7
unfolding record_refusal fault_reply
record_most table l b = go (fault l b)
  where
    go : (f : Finding) → (fault_reply table f).number ≤ 7
    go (Ok _) = omega arith
    go (Err f) = fault_most f
