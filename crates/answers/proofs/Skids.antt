-- K1 to K10 and four skids more, solved: number, states, rounds, sets and rows, both buffers whole.
-- Assumes nothing.
use mathlib.Core.Path.{◌≡◌, refl}
use mathlib.Core.List.{[]}
use Rattle.pairs.specs.Scans.{all}
use Rattle.rules.specs.Skids.{skids, failing}
use Rattle.answers.specs.Skids.{solves}

pub skids_solved : failing (λ c. all (solves c) c.solving) 0 skids ≡ []
unfolding failing skids all solves
skids_solved = refl
