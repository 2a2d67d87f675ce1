use Rattle.records.proofs.LookupLaws.{rows_found}
use Rattle.records.proofs.lookup.state_rows.Goals as goal

pub returns : goal.returns
returns c = search rows_found
