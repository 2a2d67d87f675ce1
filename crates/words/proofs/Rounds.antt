-- Deletion runs to the end: the rounds are never more than the states, and their number is determined. So there is a largest good controller, or none.
-- Assumes nothing.
use mathlib.Core.Path.{◌≡◌, subst, sym}
use mathlib.Core.Logic.{◌⊎◌, inl, inr, ⊎_elim}
use mathlib.Core.Bool.{Bool}
use mathlib.Core.List.{Memᴰ}
use Prim.Native.Nat.{ℕ, zero, suc, ◌+◌, ◌≤◌, ◌<◌}
use native.Mathlib.Nat.{eq-or-lt_of_le, le_of_suc-le-suc, not-suc-le-zero}
use native.Mathlib.Omega.{arith}
use lib.Dec.{T}
use lib.ListN.{length}
use mir.Facts.{and_yes}
use Rattle.words.specs.Words.{Words, ◌⊆◌}
use Rattle.words.specs.System.{System, Letter, Good}
use Rattle.words.specs.Sets.{SetAutomaton}
use Rattle.words.specs.Deletion.{Finite, after, Deletes, Rounds, Unblocked}
use Rattle.words.proofs.Count.{kept_or_not, count, count_length, count_less, find}
use Rattle.words.proofs.Deletion.{good_part, unblocked_good, none_iff_no_good}

module _ (s : System) (m : SetAutomaton s) (f : Finite s m) where
  open m use {Q, start}
  open f use {states, listed, pass}

  abbrev kept : ℕ → Q → Bool
  kept = after s m f

  -- each of the first j rounds deletes something; the next deletes a listed state; the rounds end, and are at most b
  abbrev Before : ℕ → Type 0
  Before j = (i : ℕ) → i < j → (q : Q) × Deletes s m f i q

  abbrev Loses : ℕ → Type 0
  Loses j = (q : Q) × Memᴰ q states × T (kept j q) × (¬ T (kept (suc j) q))

  abbrev End : ℕ → Type 0
  End b = (n : ℕ) × (n ≤ b) × Rounds s m f n

  fewer : (j : ℕ) → Loses j → count (kept (suc j)) states < count (kept j) states
  fewer j d = count_less (kept j) (kept (suc j)) (λ q b. (and_yes (kept j q) (pass (kept j) q) b).0) d.0 states d.1 d.2 d.3

  one_more : (j : ℕ) → Before j → Loses j → Before (suc j)
  one_more j before d i h = ⊎_elim
      (λ e. subst (λ i. (q : Q) × Deletes s m f i q) (sym e) (d.0, ((listed d.0).1 d.1, d.2, d.3)))
      (before i)
      (eq-or-lt_of_le (le_of_suc-le-suc h))

  -- after j rounds that each deleted something: one more does, or the end is reached
  at : (b j : ℕ) → j ≤ b → Before j → (Loses j → End b) → End b
  at b j l before on = ⊎_elim on
      (λ same. (j, l, record { deleting = before; done = λ q d. d.2 (same q ((listed q).0 d.0) d.1) }))
      (find (kept j) (kept (suc j)) states)

  -- at most g states are left
  descend : (g j : ℕ) → count (kept j) states ≤ g → Before j → End (j + g)
  descend zero j few before = at (j + 0) j (omega arith) before (λ d. let h = fewer j d in absurd (omega arith))
  descend (suc g) j few before = at (j + suc g) j (omega arith) before (λ d.
      let h = fewer j d in
      let (n, l, r) = descend g (suc j) (omega arith) (one_more j before d) in
      (n, omega arith, r))

  -- "Rounds .. are never more than the plain states."
  pub rounds_end : (n : ℕ) × (n ≤ length states) × Rounds s m f n
  rounds_end = let (n, l, r) = descend (length states) 0 (count_length (kept 0) states) (λ i h. absurd (not-suc-le-zero h)) in (n, omega arith, r)

  not_before : (n n' : ℕ) → Rounds s m f n → Rounds s m f n' → ¬ (n < n')
  not_before n n' r r' h = let (q, d) = r'.deleting n h in r.done q d

  pub rounds_unique : (n n' : ℕ) → Rounds s m f n → Rounds s m f n' → n ≡ n'
  rounds_unique n n' r r' = let a = not_before n n' r r' in let b = not_before n' n r' r in omega arith

  -- there is a largest good controller, or there is no good controller
  pub solved : ((X : Words (Letter s)) × Good s X × ((Y : Words (Letter s)) → Good s Y → Y ⊆ X)) ⊎ ((X : Words (Letter s)) → ¬ Good s X)
  solved = let (n, l, r) = rounds_end in ⊎_elim
      (λ h. inl (Unblocked s m f n, unblocked_good s m f n r h, good_part s m f n))
      (λ out. inr ((none_iff_no_good s m f n r).0 out))
      (kept_or_not (kept n start))
