-- The states that steps by letters reach are those that words lead to.
-- Assumes nothing.
use mathlib.Core.Path.{◌≡◌, refl, sym, ap, subst, ◌∙◌}
use mathlib.Core.Bool.{Bool}
use mathlib.Core.Option.{Option, some, some-injective}
use mathlib.Core.List.Memᴰ
use mathlib.Core.List.{List, [], ◌∷◌, ◌++◌, map}
use Prim.Native.Nat.{ℕ}
use Rattle.words.specs.Words.{run}
use Rattle.words.specs.System.{Letter}
use Rattle.words.proofs.Words.{is_some, first_step, run_cons, run_last}
use Rattle.rules.specs.Tables.{Skid, letters}
use Rattle.rules.specs.Reached.{Reaches}
use Rattle.rules.specs.Meaning.{system, letter_of}
use Rattle.rules.proofs.Letters.{letter_listed, letter_at_lem}

-- `step s t`: where the letter at place t leads from the state s
module _ (k : Skid) (asked : ℕ → ℕ → Bool) (step : ℕ → ℕ → Option ℕ) (start : ℕ) where
  abbrev by : ℕ → Letter (system k asked) → Option ℕ
  by s l = step s (letter_of k asked l)

  abbrev out : ℕ → List (Option ℕ)
  out s = map (step s) (letters k)

  -- what steps reach, a word leads to: a letter more for each step
  pub reached_word : (x : ℕ) → Reaches (λ s. map (step s) (letters k)) start x → (w : List (Letter (system k asked))) × (run (λ s l. step s (letter_of k asked l)) start w ≡ some x)
  reached_word x Reaches.here = ([], refl)
  reached_word y (Reaches.onward {x = x} r m) =
      let (w, e) = reached_word x r in
      let (t, mt, e') = Memᴰ.of_map (step x) (letters k) m in
      let (l, p) = letter_at_lem k asked t mt in
      (w ++ (l ∷ []), run_last by start w l e ∙ ap (step x) p ∙ e')

  -- what a word leads to, steps reach
  from_reached : (w : List (Letter (system k asked))) (x y : ℕ) → Reaches out start x → run by x w ≡ some y → Reaches out start y
  from_reached [] x y r e = subst (Reaches out start) (some-injective x y e) r
  from_reached (l ∷ w) x y r e =
      let (z, s, _) = first_step by x l w (is_some e) in
      from_reached w z y (Reaches.onward r (Memᴰ.cast (sym s) (Memᴰ.map (step x) (letter_listed k asked l)))) (sym (run_cons by {l = l} w s) ∙ e)

  pub word_reached : (w : List (Letter (system k asked))) (x : ℕ) → run (λ s l. step s (letter_of k asked l)) start w ≡ some x → Reaches (λ s. map (step s) (letters k)) start x
  word_reached w x e = from_reached w start x Reaches.here e
