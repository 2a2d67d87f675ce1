-- K6's verdict, K12's three, a state that nothing reaches, and a table with both faults, computed.
-- Assumes nothing.
use mathlib.Core.Path.{◌≡◌, refl}
use mathlib.Core.List.{[]}
use Rattle.pairs.specs.Scans.{all}
use Rattle.rules.specs.Skids.{skids, failing}
use Rattle.verdicts.specs.Skids.{checks}

pub skids_checked : failing (λ c. all (checks c) c.checking) 0 skids ≡ []
unfolding failing skids all checks
skids_checked = refl
