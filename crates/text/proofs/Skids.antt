-- K1 to K10, with four skids more, one statement over the list of them: no skid fails.
-- Assumes nothing.
use mathlib.Core.Path.{◌≡◌, refl}
use mathlib.Core.List.{[]}
use Rattle.rules.specs.Skids.{skids, failing}
use Rattle.text.specs.Skids.{holds}

pub skids_hold : failing holds 0 skids ≡ []
unfolding failing skids holds
skids_hold = refl
