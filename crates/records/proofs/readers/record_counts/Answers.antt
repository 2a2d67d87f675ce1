use Rattle.records.proofs.LookupLaws.{context_counts_lem, specification_counts_lem, controller_counts_lem}
use Rattle.records.proofs.readers.record_counts.Goals as goal

pub returns-in-Context : goal.returns-in-Context
returns-in-Context c = search context_counts_lem

pub returns-in-Specification : goal.returns-in-Specification
returns-in-Specification c = search specification_counts_lem

pub returns-in-Controller : goal.returns-in-Controller
returns-in-Controller c = search controller_counts_lem
