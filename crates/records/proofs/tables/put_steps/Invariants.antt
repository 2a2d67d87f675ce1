use Rattle.rules.specs.Layouts.{layout_of}
use Rattle.rules.specs.Records.{rows_in}
use Rattle.records.proofs.TableLaws.{Entered}
use Rattle.records.proofs.tables.put_steps.Given as goal

abbrev pub invariant-loop-k : goal.invariant-loop-k
invariant-loop-k l = Entered l.m l.n (rows_in (layout_of l.kind) l.b) l.rows l.initial.table l.table l.k
