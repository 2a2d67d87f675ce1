-- What the private functions promise to each other. No promise to a caller names these.
-- Assumes nothing.
use Rattle.std.specs.Prelude.{◌≡◌, ℕ, ◌-◌, ◌≤◌, ◌<◌, ◌&&◌, List, [], ◌++◌, T, leb, ltb, eqb, length, get_or, take, replicate, if◌then◌else◌}
use Rattle.pairs.specs.Scans.{all}
use Rattle.pairs.specs.Lent.{leading}
use Rattle.records.specs.declared.layouts.Layout as code
use Rattle.rules.specs.Layouts.{Layout}
use Rattle.rules.specs.Records.{head_size, row_size}
use Rattle.rules.specs.Faults.{key_of}

-- numbers in an array of n places: behind them, zeros
unfoldable pub padded : ℕ → List ℕ → List ℕ
padded n xs = xs ++ replicate (n - length xs) 0

-- each number is of two bytes at most
abbrev pub Small : List ℕ → Type 0
Small xs = (j : ℕ) → get_or xs j 0 < 65536

-- an array of six holds the numbers
pub record Held (xs held : List ℕ) : Type 0 where
  pub same_numbers : held ≡ padded 6 xs
  pub small : Small held

-- sizes that the reader knows: at most six, each of one or two bytes
pub record Sizes (ws : List ℕ) : Type 0 where
  pub few : length ws ≤ 6
  pub each : T (all (λ w. leb 1 w && leb w 2) ws)

-- places in an array of six
pub record Places (ps : List ℕ) : Type 0 where
  pub few : length ps ≤ 6
  pub each : T (all (λ p. ltb p 6) ps)

-- a layout as the code has it, with its sizes; and what reading by it needs
pub record LaidOut (l : Layout) (s : code.Layout) : Type 0 where
  pub kind_is : s.kind ≡ l.kind
  pub count_sizes_are : s.count_sizes.now ≡ l.count_sizes
  pub limits_are : s.limits.now ≡ l.limits
  pub field_sizes_are : s.field_sizes.now ≡ l.field_sizes
  pub below_are : s.below.now ≡ l.below
  pub key_is : s.key_size ≡ l.key_size
  pub rows_are : s.row_limit ≡ l.row_limit
  pub head_is : s.head_size ≡ head_size l
  pub row_is : s.row_size ≡ row_size l
  pub count_sizes_known : Sizes s.count_sizes.now
  pub limits_few : length s.limits.now ≤ 6
  pub field_sizes_known : Sizes s.field_sizes.now
  pub below_known : Places s.below.now
  pub head_few : s.head_size ≤ 16
  pub row_some : 1 ≤ s.row_size
  pub row_few : s.row_size ≤ 8
  pub key_few : s.key_size ≤ 6

-- the fields of a row in an array of six, and the key of the row before row k
abbrev pub fields_of : Layout → List ℕ → List ℕ
fields_of l row = take (length l.field_sizes) row

abbrev pub key_before : Layout → ℕ → List ℕ → List ℕ
key_before l k before = if eqb k 0 then [] else key_of l (fields_of l before)

-- numbers at the front of a buffer that has room; a shorter one stays whole
abbrev pub led_by : List ℕ → List ℕ → List ℕ
led_by part buffer = if leb (length part) (length buffer) then leading part buffer else buffer
