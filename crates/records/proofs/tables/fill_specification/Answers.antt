use Rattle.records.proofs.TableLaws.{counts_small, specification_filled}
use Rattle.records.proofs.tables.fill_specification.Goals as goal

pub fill_table-requires : goal.fill_table-requires
fill_table-requires c =
    counts_small c.args.b.now _ c.record_counts-counts.ensures (λ i. (c.shared_slice_known-1.given i).fits)

pub returns : goal.returns
returns c = search specification_filled
