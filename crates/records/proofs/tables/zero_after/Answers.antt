use borrow.Author.Rules.{rules}
use Rattle.pairs.proofs.Zeroed.{zeroed_part, zeroed_not}
use Rattle.rules.specs.Limits.{next_numbers}
use Rattle.records.proofs.tables.zero_after.Goals as goal

pub returns-then-next-ge-NEXT_NUMBERS : goal.returns-then-next-ge-NEXT_NUMBERS
unfolding next_numbers
returns-then-next-ge-NEXT_NUMBERS c = zeroed_part _ _ _ c.if-next-ge-NEXT_NUMBERS.true c.if-size-le-NEXT_NUMBERS.true _ (search rules)

pub returns-else-size-le-NEXT_NUMBERS : goal.returns-else-size-le-NEXT_NUMBERS
unfolding next_numbers
returns-else-size-le-NEXT_NUMBERS c = zeroed_not _ _ _ c.else-size-le-NEXT_NUMBERS.either
