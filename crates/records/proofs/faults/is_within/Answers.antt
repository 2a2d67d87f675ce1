use mathlib.Core.Path.{◌∙◌}
use borrow.Author.Rules.{rules}
use borrow.Author.Tests.{tests}
use Rattle.std.proofs.lemmas.Iterator.{YieldsList-from_slice, YieldsList-from_zip}
use Rattle.std.proofs.lemmas.Iterator.Search.{all_from_yields_List}
use Rattle.records.proofs.LimitLaws.{limit_test, zip_counts}
use Rattle.records.proofs.faults.is_within.Goals as goal

pub returns : goal.returns
returns c =
    all_from_yields_List
    limit_test
    c.all.new.self _ _
    c.all.ensures.ran
    (YieldsList-from_zip (YieldsList-from_slice c.args.limits.now (search rules)) (YieldsList-from_slice c.args.counts (search rules)))
    (λ x b q k. search (rules, tests))
    ∙ zip_counts c.args.counts c.args.limits.now (search rules) (search rules)
