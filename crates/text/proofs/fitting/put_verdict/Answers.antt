use Rattle.text.proofs.FitTextLaws.{verdict_put, checked_fits}
use Rattle.text.proofs.fitting.put_verdict.Goals as goal

pub put_checked-requires : goal.put_checked-requires
put_checked-requires c = search checked_fits

pub returns : goal.returns
returns c = search verdict_put
