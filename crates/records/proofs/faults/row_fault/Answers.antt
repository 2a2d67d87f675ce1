use Rattle.records.proofs.RowLaws.{code_found, first_sound, greater_sound, equal_found, lower_found}
use Rattle.records.proofs.faults.row_fault.Goals as goal

pub returns-then-not-has_codes_below : goal.returns-then-not-has_codes_below
returns-then-not-has_codes_below c = search code_found

pub returns-then-k-eq0 : goal.returns-then-k-eq0
returns-then-k-eq0 c = search first_sound

pub returns-in-Greater : goal.returns-in-Greater
returns-in-Greater c = search greater_sound

pub returns-in-Equal : goal.returns-in-Equal
returns-in-Equal c = search equal_found

pub returns-in-Less : goal.returns-in-Less
returns-in-Less c = search lower_found
