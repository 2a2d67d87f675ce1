use Rattle.records.proofs.TableLaws.{entered_none, entered_more, entered_all}
use Rattle.records.proofs.tables.put_steps.Goals as goal

pub loop-k-init : goal.loop-k-init
loop-k-init c = search entered_none

pub loop-k-preserved : goal.loop-k-preserved
loop-k-preserved c = search (entered_more, c.row_of.ensures, c.put_step.ensures)

pub returns : goal.returns
returns c = search entered_all
