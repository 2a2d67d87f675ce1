-- What `read_controller` needs: the record's refusal, then 10, then the next table and zeros.
-- Assumes nothing.
use Rattle.std.specs.Prelude.{Ok, Err}
use mathlib.Core.Path.{◌≡◌, refl, sym, ap, ◌∙◌}
use mathlib.Core.List.{List, ◌++◌}
use Prim.Native.Nat.{ℕ, ◌*◌, ◌≤◌, ◌<◌}
use native.Mathlib.Nat.{mul-le-mul}
use native.Mathlib.Omega.{arith}
use lib.ListN.{length, drop}
use borrow.Author.Tests.{le-leb, lt-leb}
use Rattle.rules.specs.declared.Counts.{Counts}
use Rattle.rules.specs.declared.Refusal.{Refusal}
use Rattle.rules.specs.declared.Refusal.TheVariants.{Room}
use Rattle.rules.specs.declared.Kind.TheVariants.{Controller}
use Rattle.rules.specs.Limits.{state_limit, next_numbers}
use Rattle.rules.specs.Zeros.{NextZeroed}
use Rattle.rules.specs.Layouts.{controller_layout}
use Rattle.rules.specs.Records.{rows_in}
use Rattle.rules.specs.Counts.{controller_counts}
use Rattle.rules.specs.Faults.{Finding, fault}
use Rattle.rules.specs.NextTables.{table_of}
use Rattle.rules.specs.Tables.{controller_table}
use Rattle.rules.specs.Reading.{read_unless, read_record, in_room, filled_by, read_controller, ControllerRead}
use Rattle.records.specs.Inside.{led_by}
use Rattle.pairs.proofs.Zeroed.{zeroed_leading}
use Rattle.rules.proofs.Sound.{count_within}
use Rattle.rules.proofs.ReadsFine.{read_reading, read_next}
use Rattle.rules.proofs.NextTables.{table_length}

module _ (b next : List ℕ) where
  pub controller_refused : (e : Refusal) → Err e ≡ read_record Controller b → ControllerRead b next (Err e) next
  unfolding read_controller in_room filled_by
  controller_refused e is = record { reading_is = rw (← is); next_is = rw (← is) }

  module _ (counts : Counts) (legal : Ok counts ≡ read_record Controller b) where
    pub controller_short : length next < 8192 → ControllerRead b next (Err Room) next
    unfolding read_controller in_room filled_by next_numbers
    controller_short h = record { reading_is = rw (← legal, lt-leb 8192 (length next) h); next_is = rw (← legal, lt-leb 8192 (length next) h) }

    found : (f : Finding) → read_unless Controller f (controller_counts b) ≡ Ok counts → (f ≡ Ok tt) × (controller_counts b ≡ counts)
    unfolding read_unless
    found (Ok tt) e = (refl, cc)
    found (Err x) e = absurd cc

    told : (fault controller_layout b ≡ Ok tt) × (controller_counts b ≡ counts)
    unfolding read_record
    told = found (fault controller_layout b) (sym legal)

    faultless : fault controller_layout b ≡ Ok tt
    faultless = told.0

    counts_are : counts ≡ controller_counts b
    counts_are = sym told.1

    u_few : counts.u ≤ 4
    unfolding controller_layout
    u_few = rw counts_are (count_within controller_layout b faultless 0 (omega arith)).1

    v_few : counts.v ≤ 4
    unfolding controller_layout
    v_few = rw counts_are (count_within controller_layout b faultless 1 (omega arith)).1

    states_few : counts.states ≤ 512
    unfolding controller_layout state_limit
    states_few = rw counts_are (count_within controller_layout b faultless 2 (omega arith)).1

    pub u_small : counts.u < 65536
    u_small = omega (arith, u_few)

    pub v_small : counts.v < 65536
    v_small = omega (arith, v_few)

    pub states_small : counts.states < 65536
    states_small = omega (arith, states_few)

    module _ (size : ℕ) (size_is : size ≡ counts.states * (counts.u * counts.v)) where
      size_within : size ≤ 8192
      size_within = rw size_is (mul-le-mul states_few (mul-le-mul u_few v_few))

      table_is : table_of counts.u counts.v counts.states (rows_in controller_layout b) ≡ controller_table b
      unfolding controller_table
      table_is = rw counts_are

      long : length (controller_table b) ≡ size
      long = ap length (sym table_is) ∙ table_length counts.u counts.v counts.states (rows_in controller_layout b) ∙ sym size_is

      pub controller_filled : 8192 ≤ length next → (led zeroed : List ℕ)
          → led ≡ led_by (table_of counts.u counts.v counts.states (rows_in controller_layout b)) next
          → NextZeroed led size zeroed → ControllerRead b next (Ok counts) zeroed
      unfolding next_numbers
      controller_filled room led zeroed led_is zeroed_is =
          let fits : length (controller_table b) ≤ length next = omega (arith, long, size_within) in
          let led_by_lem : led ≡ controller_table b ++ drop (length (controller_table b)) next = led_is ∙ rw (table_is, le-leb (length (controller_table b)) (length next) fits) in
          record {
            reading_is = ap Ok counts_are ∙ sym (read_reading b next faultless room);
            next_is = zeroed_is ∙ rw (led_by_lem, ← long) (zeroed_leading 8192 (controller_table b) next (rw long size_within) room) ∙ sym (read_next b next faultless room);
          }
