use borrow.Author.Rules.{rules}
use Rattle.pairs.specs.Scans.{all, total}
use Rattle.rules.specs.Layouts.{context_layout, specification_layout, controller_layout}
use Rattle.rules.specs.Limits.{state_limit}
use Rattle.records.proofs.layouts.layout_of.Goals as goal

pub returns-in-Context : goal.returns-in-Context
unfolding context_layout total all
returns-in-Context c = rw c.in-Context.is (search rules)

pub returns-in-Specification : goal.returns-in-Specification
unfolding specification_layout total all
returns-in-Specification c = rw c.in-Specification.is (search rules)

pub returns-in-Controller : goal.returns-in-Controller
unfolding controller_layout total all state_limit
returns-in-Controller c = rw c.in-Controller.is (search rules)
