use Rattle.fit.proofs.MatchLaws.{signals_differ, replies_differ, letters_match}
use Rattle.fit.proofs.checking.same_letters.Goals as goal
use Rattle.fit.proofs.checking.same_letters.Goals.{then-c-t-via-then-c-t, then-c-t-via-else-c-t+then-c-t-2}

pub returns-then-c-t : goal.returns-then-c-t
returns-then-c-t c = elim c.then-c-t.branch [ then-c-t-via-then-c-t w ↦ search signals_differ | then-c-t-via-else-c-t+then-c-t-2 w ↦ search replies_differ ]

pub returns : goal.returns
returns c = search letters_match
