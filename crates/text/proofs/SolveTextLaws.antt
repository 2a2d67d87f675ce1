-- What `solve` puts: the text of its input's mode and two records, or the refusal of an input that is too long or that has no byte at all.
-- Assumes nothing.
use mathlib.Core.Path.{◌≡◌, ap, ◌∙◌}
use mathlib.Core.List.{List}
use Prim.Native.Nat.{ℕ, ◌-◌, ◌*◌, ◌^◌, ◌≤◌, ◌<◌}
use native.Mathlib.Nat.{mul-le-mul}
use native.Mathlib.Omega.{arith}
use lib.ListN.{length, get_or, take, drop, length-replicate}
use borrow.Author.Tests.{lt-ltb, le-ltb, eq-eqb, ne_eqb}
use mir.Syntax.{w16}
use mir.Val.{Fits}
use Rattle.rules.specs.declared.Reply.{Reply}
use Rattle.rules.specs.declared.Counts.{Counts}
use Rattle.std.specs.Prelude.{Ok}
use Rattle.rules.specs.declared.Kind.TheVariants.{Context}
use Rattle.rules.specs.Limits.{state_limit, set_numbers, next_numbers}
use Rattle.rules.specs.Layouts.{context_layout}
use Rattle.rules.specs.Faults.{fault}
use Rattle.rules.specs.Counts.{CountsRead, context_counts}
use Rattle.rules.specs.Replies.{refusal}
use Rattle.rules.proofs.Sound.{count_within}
use Rattle.answers.specs.Solve.{Solved}
use Rattle.answers.proofs.Small.{solved_small}
use Rattle.text.specs.Lines.{refused_text, solved_text}
use Rattle.text.specs.Inputs.{solve_limit, solve_text_limit, record_end}
use Rattle.text.specs.Programs.{zeros, solve_printed, solve_text, SolveTextPut}
use Rattle.text.specs.Inside.{Codes, Tabled, cut_printed}
use Rattle.text.specs.declared.growing.Text.{Text}
use Rattle.text.specs.Growing.{Room, Grown}
use Rattle.text.proofs.LengthLaws.{refused_length}
use Rattle.text.proofs.LongLaws.{small_by_place, answer_length}
use Rattle.text.proofs.ProgramLaws.{bytes_from, cut_first, cut_behind, buffer_stays, text_put}

-- ---- two records
-- the codes of a context without fault, and the places of at most 512 states
small_codes : (context : List ℕ) (states : ℕ) → fault context_layout context ≡ Ok tt → states ≤ state_limit
    → let counts : Counts = context_counts context in Codes counts.u counts.v (states * (counts.u * counts.v))
unfolding context_layout state_limit
small_codes context states sound few =
    let (some_u, few_u) = count_within context_layout context sound 2 (omega arith) in
    let (some_v, few_v) = count_within context_layout context sound 3 (omega arith) in
    record {
      some_u = some_u;
      few_u = few_u;
      some_v = some_v;
      few_v = few_v;
      few_places = mul-le-mul few (mul-le-mul few_u few_v);
    }

module _ (mode : ℕ) (context specification sets next : List ℕ) (sets_zero : sets ≡ zeros set_numbers) (next_zero : next ≡ zeros next_numbers)
    (reply : Reply) (sets' next' : List ℕ) (done : Solved mode context specification sets next reply sets' next')
    (counts : Counts) (read : CountsRead Context context counts) where
  -- no refusal: the answer is small, and 8,192 numbers hold its table
  pub solved_tabled : length next' ≡ length next → Tabled counts.u counts.v reply next'
  unfolding next_numbers
  solved_tabled same = rw read (record {
    codes = codes;
    long_enough = λ z. omega (arith, long, (codes z).few_places);
  })
    where
      long : length next' ≡ 8192
      long = same ∙ ap length next_zero ∙ length-replicate {A = ℕ} 8192 0

      codes : reply.number ≡ 0 → let counts : Counts = context_counts context in Codes counts.u counts.v (reply.states * (counts.u * counts.v))
      codes z = let (few, sound) = solved_small mode context specification sets next reply sets' next' done z in small_codes context reply.states sound few

  -- so its text is not longer than the longest
  pub answer_fits : length next' ≡ length next → reply.number < 2 ^ 32 → reply.«record» < 2 ^ 32 → reply.row < 2 ^ 32 → reply.rounds < 2 ^ 32
      → ((i : ℕ) → Fits w16 (get_or next' i 0)) → (text : Text) → Room solve_text_limit text → Room (length (solved_text counts.u counts.v reply next')) text
  unfolding state_limit
  answer_fits same number table row rounds entries text room =
      let few : reply.number ≡ 0 → reply.states ≤ state_limit = λ z. (solved_small mode context specification sets next reply sets' next' done z).0 in
      let most = answer_length counts.u counts.v reply next' (solved_tabled same) few number table row rounds (small_by_place next' (λ i _. (entries i).fits)) in
      omega (arith, most, room)

  pub solution_put : (was now : Text) → Grown (solved_text counts.u counts.v reply next') was now → Grown (solve_printed mode context specification) was now
  unfolding solve_printed
  solution_put was now = rw (← sets_zero, ← next_zero, ← done.reply_is, ← done.next_is, read) (λ a. a)

-- ---- the input
-- the bytes behind the mode byte
pub cut_put : (mode : ℕ) (rest : List ℕ) (end : ℕ) → end ≡ record_end rest → (was now : Text)
    → Grown (solve_printed mode (take end rest) (take (length rest - end) (drop end rest))) was now → Grown (cut_printed mode rest) was now
cut_put mode rest end cut was now a = rw (← cut_first rest end cut, ← cut_behind rest end cut) a

module _ (input : List ℕ) where
  -- "More than 28,689 bytes: refusal 1, record 0."
  solve_text_long : 28689 < length input → refused_text (refusal 1 0 0 0) ≡ solve_text input
  unfolding solve_limit solve_text
  solve_text_long h = rw (lt-ltb solve_limit (length input) h)

  -- "Otherwise no byte at all: 13."
  solve_text_empty : length input ≤ 28689 → length input ≡ 0 → refused_text (refusal 13 0 0 0) ≡ solve_text input
  unfolding solve_limit solve_text
  solve_text_empty h z = rw (le-ltb solve_limit (length input) h, eq-eqb (length input) 0 z)

  solve_text_cut : length input ≤ 28689 → (length input ≡ 0 → ⊥) → cut_printed (get_or input 0 0) (drop 1 input) ≡ solve_text input
  unfolding solve_limit solve_text
  solve_text_cut h z = rw (le-ltb solve_limit (length input) h, ne_eqb (length input) 0 z)

  module _ (was now : Text) where
    pub too_long_put : 28689 < length input → (reply : Reply) → reply ≡ refusal 1 0 0 0 → Grown (refused_text reply) was now → Grown (solve_text input) was now
    too_long_put h reply e a = rw (e, solve_text_long h) at a

    pub empty_put : length input ≤ 28689 → length input ≡ 0 → (reply : Reply) → reply ≡ refusal 13 0 0 0 → Grown (refused_text reply) was now → Grown (solve_text input) was now
    empty_put h z reply e a = rw (e, solve_text_empty h z) at a

    pub input_put : length input ≤ 28689 → (length input ≡ 0 → ⊥) → Grown (cut_printed (get_or input 0 0) (take (length input - 1) (drop 1 input))) was now
        → Grown (solve_text input) was now
    input_put h z a = rw (bytes_from 1 input, solve_text_cut h z) at a

-- the program's text stands at the front of the buffer
pub program_put : (input out : List ℕ) → 114724 ≤ length out → (was now : Text) → Grown (solve_text input) was now → was.end ≡ 0 → was.out.now ≡ out
    → (out' : List ℕ) → (was.out.ghost_name ≡ now.out.ghost_name → out' ≡ now.out.now) → SolveTextPut input out now.end out'
unfolding solve_text_limit
program_put input out = text_put solve_text_limit (solve_text input) out

pub short_stays : (input out : List ℕ) → length out < 114724 → SolveTextPut input out 0 out
unfolding solve_text_limit
short_stays input out h = buffer_stays solve_text_limit (solve_text input) out h

-- the line of a refusal fits
pub refused_room : (r : Reply) → r.number < 2 ^ 32 → r.«record» < 2 ^ 32 → r.row < 2 ^ 32 → r.rounds < 2 ^ 32 → (text : Text) → Room solve_text_limit text
    → Room (length (refused_text r)) text
unfolding solve_text_limit
refused_room r number table row rounds text h = omega (arith, refused_length r number table row rounds)
