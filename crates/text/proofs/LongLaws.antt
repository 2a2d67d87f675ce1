-- No text of `solve` is longer than its limit: a table has at most 8,192 lines of at most 14 bytes, and the first line, or a refusal, few.
-- Assumes nothing.
use mathlib.Core.Path.{◌≡◌, refl}
use mathlib.Core.Bool.{Bool, true, false}
use mathlib.Core.List.Memᴰ
use mathlib.Core.List.{List, Memᴰ}
use Prim.Native.Nat.{ℕ, ◌+◌, ◌*◌, ◌/◌, ◌^◌, ◌≤◌, ◌<◌}
use native.Mathlib.Nat.{mul-le-mul_right, mul-pos, mod-lt, div-lt_iff_lt-mul}
use native.Mathlib.Omega.{arith}
use lib.Dec.{eqb}
use lib.ListN.{length, get_or, take, drop, length-append, length-take, take-append-drop}
use borrow.Author.Tests.{eqb-true, eqb-false}
use Rattle.pairs.proofs.Lists.{mem_at}
use Rattle.rules.specs.declared.Reply.{Reply}
use Rattle.rules.proofs.EachRow.{rows_at_most}
use Rattle.text.specs.Inputs.{solve_text_limit}
use Rattle.text.specs.Lines.{line, solved_text}
use Rattle.text.specs.Inside.{step_lines, Codes, Tabled}
use Rattle.text.proofs.LengthLaws.{refused_length, solved_line_length, step_line_length}
use Rattle.text.proofs.AnswerLaws.{refused_is, solved_is}

-- numbers of 16 bits
abbrev pub Small : List ℕ → Type 0
Small ts = (t : ℕ) → Memᴰ t ts → t < 65536

pub small_by_place : (ts : List ℕ) → ((i : ℕ) → i < length ts → get_or ts i 0 < 65536) → Small ts
small_by_place ts each t m = let (i, h, e) = mem_at 0 m in rw e at (each i h)

small_first : (k : ℕ) (ts : List ℕ) → Small ts → Small (take k ts)
small_first k ts small t m = small t (rw take-append-drop at (Memᴰ.append_left (drop k ts) m))

-- states are below 512, codes below 4
pub table_length : (n_u n_v p : ℕ) (ts : List ℕ) → 1 ≤ n_u → n_u ≤ 4 → 1 ≤ n_v → n_v ≤ 4 → p + length ts ≤ 512 * (n_u * n_v) → Small ts → length (step_lines n_u n_v p ts) ≤ length ts * 14
unfolding step_lines
table_length n_u n_v p ts u_some u_few v_some v_few few small = rows_at_most line n_u n_v 14 p ts (λ q t h m.
    let state = (div-lt_iff_lt-mul {k = n_u * n_v} {x = q} {y = 512} (mul-pos u_some v_some)).1 (omega arith) in
    step_line_length _ _ _ t (omega arith) (omega (arith, mod-lt (q / n_v) u_some)) (omega (arith, mod-lt q v_some)) (omega (arith, small t m)))

module _ (n_u n_v : ℕ) (reply : Reply) (next : List ℕ) where
  solved_length : Codes n_u n_v (reply.states * (n_u * n_v)) → reply.number ≡ 0 → reply.states ≤ 512 → reply.rounds < 2 ^ 32 → Small next
      → length (solved_text n_u n_v reply next) ≤ 36 + 8192 * 14
  solved_length codes e few rounds small =
      let size : ℕ = reply.states * (n_u * n_v) in
      let places = take size next in
      let most = length-take size next in
      let table = table_length n_u n_v 0 places codes.some_u codes.few_u codes.some_v codes.few_v (omega (arith, mul-le-mul_right (n_u * n_v) few)) (small_first size next small) in
      rw (solved_is n_u n_v reply next e, length-append) (omega (arith, codes.few_places, solved_line_length reply.states reply.rounds (omega arith) rounds))

  -- the answer, whether it refuses or not
  pub answer_length : Tabled n_u n_v reply next → (reply.number ≡ 0 → reply.states ≤ 512) → reply.number < 2 ^ 32 → reply.«record» < 2 ^ 32 → reply.row < 2 ^ 32
      → reply.rounds < 2 ^ 32 → Small next → length (solved_text n_u n_v reply next) ≤ solve_text_limit
  unfolding solve_text_limit
  answer_length tabled few n k w t small = go (eqb reply.number 0) refl
    where
      go : (b : Bool) → eqb reply.number 0 ≡ b → length (solved_text n_u n_v reply next) ≤ 114724
      go true e = let z = eqb-true reply.number 0 e in solved_length (tabled.codes z) z (few z) t small
      go false e = rw (refused_is n_u n_v reply next (eqb-false reply.number 0 e)) (omega (arith, refused_length reply n k w t))
