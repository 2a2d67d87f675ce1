use mathlib.Core.Path.{refl}
use borrow.Author.Rules.{rules}
use Rattle.pairs.specs.Lent.{set_size}
use Rattle.rules.specs.Limits.{state_limit, set_numbers, next_numbers}
use Rattle.text.proofs.solving.put_records.Goals as goal

pub put_solution-requires : goal.put_solution-requires
unfolding set_numbers next_numbers state_limit set_size
put_solution-requires c = (refl, refl, search rules)
