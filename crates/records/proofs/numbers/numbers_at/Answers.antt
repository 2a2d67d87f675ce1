use Rattle.records.proofs.NumberLaws.{read_none, size_some, size_few, place_near, next_fits, read_more, read_all}
use Rattle.records.proofs.numbers.numbers_at.Goals as goal

pub loop-j-init : goal.loop-j-init
loop-j-init c = search read_none

pub number_at-requires : goal.number_at-requires
number_at-requires c = (search size_some, search size_few, search place_near)

pub overflow_add-place : goal.overflow_add-place
overflow_add-place c = record { fits = search next_fits }

pub loop-j-preserved : goal.loop-j-preserved
loop-j-preserved c = search read_more

pub returns : goal.returns
returns c = search read_all
