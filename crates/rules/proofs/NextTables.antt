-- The next table of rows: it has a place for each step of each state, and where the rows' nexts are states, it is a next table of these states.
-- Assumes nothing.
use mathlib.Core.Path.{◌≡◌, refl, ◌∙◌}
use mathlib.Core.Logic.{◌⊎◌, inl, inr}
use mathlib.Core.List.{List, [], ◌∷◌, foldl, Memᴰ}
use Prim.Native.Nat.{ℕ, zero, suc, ◌*◌, ◌≤◌, ◌<◌}
use lib.ListN.{length, get_or, set, replicate, length-set, length-replicate}
use Rattle.rules.specs.Limits.{absent}
use Rattle.rules.specs.NextTables.{step_place, table_of}
use Rattle.rules.specs.Meaning.{NextTable}

-- each entry is 65535 or a state
abbrev Entries : ℕ → List ℕ → Type 0
Entries states next = (p : ℕ) → (get_or next p absent ≡ absent) ⊎ (get_or next p absent < states)

set_entries : (states : ℕ) (next : List ℕ) (i v : ℕ) → v < states → Entries states next → Entries states (set next i v)
set_entries states [] i v h each p = each p
set_entries states (x ∷ next) zero v h each zero = inr h
set_entries states (x ∷ next) zero v h each (suc p) = each (suc p)
set_entries states (x ∷ next) (suc i) v h each zero = each zero
set_entries states (x ∷ next) (suc i) v h each (suc p) = set_entries states next i v h (λ p. each (suc p)) p

pub get_d_replicate_same : {A : Type 0} (n p : ℕ) (a : A) → get_or (replicate n a) p a ≡ a
get_d_replicate_same zero p a = refl
get_d_replicate_same (suc n) zero a = refl
get_d_replicate_same (suc n) (suc p) a = get_d_replicate_same n p a

-- rows entered one after the other, each at its place
module _ (at : List ℕ → ℕ) where
  abbrev pub entered : List ℕ → List (List ℕ) → List ℕ
  entered acc rows = foldl (λ acc r. set acc (at r) (get_or r 3 0)) acc rows

  entered_length : (rows : List (List ℕ)) (acc : List ℕ) → length (entered acc rows) ≡ length acc
  entered_length [] acc = refl
  entered_length (r ∷ rows) acc = entered_length rows (set acc (at r) (get_or r 3 0)) ∙ length-set acc (at r) (get_or r 3 0)

  entered_entries : (states : ℕ) (rows : List (List ℕ)) → ((r : List ℕ) → Memᴰ r rows → get_or r 3 0 < states) → (acc : List ℕ) → Entries states acc → Entries states (entered acc rows)
  entered_entries states [] below acc each = each
  entered_entries states (r ∷ rows) below acc each = entered_entries states rows (λ r m. below r (Memᴰ.tail m)) (set acc (at r) (get_or r 3 0))
      (set_entries states acc (at r) (get_or r 3 0) (below r (Memᴰ.head refl)) each)

-- the place of a row (state, x, y, next)
abbrev pub row_place : ℕ → ℕ → List ℕ → ℕ
row_place m n r = step_place m n (get_or r 0 0) (get_or r 1 0) (get_or r 2 0)

module _ (m n states : ℕ) (rows : List (List ℕ)) where
  pub table_length : length (table_of m n states rows) ≡ states * (m * n)
  unfolding table_of
  table_length = entered_length (row_place m n) rows (replicate (states * (m * n)) absent) ∙ length-replicate (states * (m * n)) absent

  pub next_table : 0 < states → states ≤ absent → ((r : List ℕ) → Memᴰ r rows → get_or r 3 0 < states) → NextTable states (table_of m n states rows)
  unfolding table_of
  next_table start few below = record {
    occupied = start;
    few = few;
    entry = entered_entries (row_place m n) states rows below (replicate (states * (m * n)) absent) (λ p. inl (get_d_replicate_same (states * (m * n)) p absent));
  }
