use Rattle.records.proofs.KindLaws.{no_rows, rows_counted}
use Rattle.records.proofs.layouts.row_count.Goals as goal

pub returns-then-b-layout : goal.returns-then-b-layout
returns-then-b-layout c = search no_rows

pub returns : goal.returns
returns c = search rows_counted
