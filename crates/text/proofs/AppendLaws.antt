-- Bytes put at a place of a buffer: the buffer stays as long as it was, bytes put behind others are both put together, and there is room for them where there is room for both.
-- Assumes nothing.
use mathlib.Core.Path.{◌≡◌, ◌∙◌}
use mathlib.Core.List.{List, [], ◌++◌, append_assoc}
use Prim.Native.Nat.{ℕ, ◌+◌, ◌≤◌}
use native.Mathlib.Nat.{add-zero}
use native.Mathlib.Omega.{arith}
use lib.ListN.{length, take, drop, length-append, length-take, length-drop, take-append-drop}
use lib.Seq.{take_at, drop_at, drop-drop, length-take-le}
use Rattle.pairs.specs.Lent.{spliced_at}
use Rattle.text.specs.Inside.{Appends}

-- the buffer's part before the end of what was put
front_length : (at : ℕ) (xs b : List ℕ) → at ≤ length b → length (take at b ++ xs) ≡ at + length xs
front_length at xs b h = rw (length-append, length-take-le at b h)

-- what is put behind the bytes that were put
spliced_then : (at : ℕ) (xs ys b : List ℕ) → at ≤ length b → spliced_at (at + length xs) ys (spliced_at at xs b) ≡ spliced_at at (xs ++ ys) b
spliced_then at xs ys b h =
    let front : List ℕ = take at b ++ xs in
    let rest : List ℕ = drop (length xs) (drop at b) in
    let e : spliced_at at xs b ≡ front ++ rest = rw append_assoc in
    let n : length front ≡ at + length xs = front_length at xs b h in
    rw (e, take_at front rest (at + length xs) n, drop_at front rest (at + length xs) n, length-append, drop-drop (length ys) (length xs), append_assoc (take at b) xs, append_assoc)

module _ {at m : ℕ} {xs b b' : List ℕ} (a : Appends at xs b m b') where
  pub appends_length : at + length xs ≤ length b → length b' ≡ length b
  appends_length h = rw a.buffer_is (simp (length-append, length-take, length-drop) (omega arith))

  pub appends_then : {n : ℕ} {ys b'' : List ℕ} → Appends m ys b' n b'' → at ≤ length b → Appends at (xs ++ ys) b n b''
  appends_then {n} {ys} {b''} c h = record {
    end_is = c.end_is ∙ rw (a.end_is, length-append) (omega arith);
    buffer_is = c.buffer_is ∙ rw (a.end_is, a.buffer_is) (spliced_then at xs ys b h);
  }

-- no byte
pub appends_none : (at : ℕ) (b : List ℕ) → Appends at [] b at b
appends_none at b = record {
  end_is = rw add-zero;
  buffer_is = rw take-append-drop;
}

-- ---- bytes in two parts, where there is room for both

pub front_room : (at : ℕ) (xs ys b : List ℕ) → at + length (xs ++ ys) ≤ length b → at + length xs ≤ length b
front_room at xs ys b h = omega (arith, length-append xs ys)

module _ {at m : ℕ} {xs b b' : List ℕ} (ys : List ℕ) (room : at + length (xs ++ ys) ≤ length b) (a : Appends at xs b m b') where
  pub rest_room : m + length ys ≤ length b'
  rest_room = omega (arith, length-append xs ys, appends_length a (front_room at xs ys b room), a.end_is)

  pub both_put : {n : ℕ} {b'' : List ℕ} → Appends m ys b' n b'' → Appends at (xs ++ ys) b n b''
  both_put c = appends_then a c (omega arith)
