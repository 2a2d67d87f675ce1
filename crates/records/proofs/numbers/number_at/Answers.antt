use borrow.Author.Rules.{rules}
use Rattle.records.proofs.NumberLaws.{one_byte, two_bytes}
use Rattle.records.proofs.numbers.number_at.Goals as goal

pub returns-then-size-lt2 : goal.returns-then-size-lt2
returns-then-size-lt2 c = (search one_byte, search rules)

pub returns : goal.returns
returns c = (search two_bytes, search rules)
