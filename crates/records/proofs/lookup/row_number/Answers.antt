use Rattle.records.proofs.LookupLaws.{sought_none, key_here, key_later, key_end}
use Rattle.records.proofs.lookup.row_number.Goals as goal

pub loop-k-init : goal.loop-k-init
loop-k-init c = search sought_none

pub returns-then-has_key : goal.returns-then-has_key
returns-then-has_key c = search key_here

pub loop-k-preserved : goal.loop-k-preserved
loop-k-preserved c = search key_later

pub returns : goal.returns
returns c = search key_end
