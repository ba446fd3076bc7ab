use Rattle.std.proofs.Common.{sym, rules}
use Rattle.refusal.specs.Order.{after}
use Rattle.table.specs.RowIndex.{row_of}
use Rattle.table.proofs.IndexLaws.{index_exactly}
use Rattle.table.proofs.find_row_in.Goals as goal

pub returns-in_err-test_index : goal.returns-in_err-test_index
unfolding row_of after
returns-in_err-test_index c = search rules

pub find_in_index-requires : goal.find_in_index-requires
find_in_index-requires c =
    let rooted = (index_exactly _ _).0 (sym c.in_ok-test_index.ensures) in
    (rooted.0, c.requires, rooted.1)

pub returns : goal.returns
unfolding row_of after
returns c = search rules
