use Rattle.records.proofs.HeadLaws.{length_found, four_bytes, kind_found, cut_found, limit_found, nothing_found}
use Rattle.records.proofs.faults.head_fault.Goals as goal

pub returns-then-is_wrong_length : goal.returns-then-is_wrong_length
returns-then-is_wrong_length c = search length_found

pub is_other_kind-requires : goal.is_other_kind-requires
is_other_kind-requires c = search four_bytes

pub returns-then-is_other_kind : goal.returns-then-is_other_kind
returns-then-is_other_kind c = search kind_found

pub returns-then-is_cut : goal.returns-then-is_cut
returns-then-is_cut c = search cut_found

pub returns-then-is_outside : goal.returns-then-is_outside
returns-then-is_outside c = search limit_found

pub returns : goal.returns
returns c = search nothing_found
