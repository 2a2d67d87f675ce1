use borrow.Author.Rules.{rules}
use Rattle.tables.proofs.SpecificationLaws.{steps_fit, lent_within, lent_count}
use Rattle.fit.proofs.SpecificationLaws.{lent_ready, lent_judged}
use Rattle.fit.proofs.checking.check_read.Goals as goal

pub overflow_mul-size : goal.overflow_mul-size
overflow_mul-size c = record { fits = search steps_fit }

pub slice_bounds-table-end : goal.slice_bounds-table-end
slice_bounds-table-end c = search lent_within

pub slice_bounds-judge-end : goal.slice_bounds-judge-end
slice_bounds-judge-end c = search lent_count

pub judge-requires : goal.judge-requires
judge-requires c = (search lent_ready, search rules)

pub returns : goal.returns
returns c = search lent_judged
