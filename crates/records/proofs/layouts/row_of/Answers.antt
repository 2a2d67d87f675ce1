use mathlib.Core.Path.{refl}
use Rattle.records.proofs.KindLaws.{row_offset_fits, row_start_fits, row_alone}
use Rattle.records.proofs.layouts.row_of.Goals as goal

pub overflow_mul-at : goal.overflow_mul-at
overflow_mul-at c = record { fits = search row_offset_fits }

pub overflow_add-at : goal.overflow_add-at
overflow_add-at c = record { fits = search row_start_fits }

pub returns : goal.returns
returns c = row_alone _ _ c.layout_of-layout.ensures _ _ c.requires _ _ _ refl refl c.numbers_at.ensures
