use mathlib.Core.Path.{refl}
use Rattle.records.proofs.TableLaws.{block_fits, blocks_fit, front_count, led_count, table_led, table_left}
use Rattle.records.proofs.tables.fill_table.Goals as goal

pub overflow_mul-size : goal.overflow_mul-size
overflow_mul-size c = record { fits = search block_fits }

pub overflow_mul-size-2 : goal.overflow_mul-size-2
overflow_mul-size-2 c = record { fits = search blocks_fit }

pub slice_bounds-blank-end-then-size-table : goal.slice_bounds-blank-end-then-size-table
slice_bounds-blank-end-then-size-table c = search front_count

pub slice_bounds-put_steps-end-then-size-table : goal.slice_bounds-put_steps-end-then-size-table
slice_bounds-put_steps-end-then-size-table c = search led_count

pub returns-then-size-table : goal.returns-then-size-table
returns-then-size-table c = (refl, table_led _ _ _ _ _ _ _ c.if-size-table.true c.blank.ensures c.put_steps.ensures)

pub returns-else-size-table : goal.returns-else-size-table
returns-else-size-table c = (refl, search table_left)
