-- What the private functions promise to each other. No promise to a caller names these.
-- Assumes nothing.
use Rattle.std.specs.Prelude.{◌≡◌, ℕ, ◌+◌, ◌*◌, ◌≤◌, length}
use mathlib.Core.List.{List, flat_map}
use Rattle.pairs.specs.Lent.{spliced_at}
use Rattle.rules.specs.declared.Reply.{Reply}
use Rattle.rules.specs.NextTables.{listing}
use Rattle.text.specs.Lines.{line}
use Rattle.text.specs.Inputs.{first_record, behind}
use Rattle.text.specs.Programs.{solve_printed, fit_printed}

-- the bytes stand in the buffer from the place `at` on, and `end` is the place behind them; the rest stays
pub record Appends (at : ℕ) (bytes buffer : List ℕ) (end : ℕ) (buffer' : List ℕ) : Type 0 where
  pub end_is : end ≡ at + length bytes
  pub buffer_is : buffer' ≡ spliced_at at bytes buffer

-- the lines of the places from p on
unfoldable pub step_lines : ℕ → ℕ → ℕ → List ℕ → List ℕ
step_lines n_u n_v p ts = flat_map line (listing n_u n_v p ts)

-- codes and a place that the lines can be made of
pub record Codes (n_u n_v p : ℕ) : Type 0 where
  pub some_u : 1 ≤ n_u
  pub few_u : n_u ≤ 4
  pub some_v : 1 ≤ n_v
  pub few_v : n_v ≤ 4
  pub few_places : p ≤ 8192

-- an answer whose table can be printed: where it does not refuse, its places are there
pub record Tabled (n_u n_v : ℕ) (reply : Reply) (next : List ℕ) : Type 0 where
  pub codes : reply.number ≡ 0 → Codes n_u n_v (reply.states * (n_u * n_v))
  pub long_enough : reply.number ≡ 0 → reply.states * (n_u * n_v) ≤ length next

-- what is printed where the bytes behind the mode byte, or behind the context record, are still to be cut
abbrev pub cut_printed : ℕ → List ℕ → List ℕ
cut_printed mode rest = solve_printed mode (first_record rest) (behind rest)

abbrev pub rest_printed : List ℕ → List ℕ → List ℕ
rest_printed context rest = fit_printed context (first_record rest) (behind rest)
