use Rattle.std.proofs.Common.{◌+◌, ◌≤◌, sym, arith, length}
use Rattle.laws.proofs.Tests.{and_both}
use Rattle.columns.specs.Record.{column_count}
use Rattle.columns.proofs.ColumnLaws.{each_sound}
use Rattle.apart.proofs.SureLaws.{surely_none, surely_on, row_room}
use Rattle.apart.proofs.apart_by_marks.Goals as goal

pub loop-i-init : goal.loop-i-init
loop-i-init c = λ _. surely_none _ _ _

pub claim_bytes-bytes_free-requires : goal.claim_bytes-bytes_free-requires
claim_bytes-bytes_free-requires c =
    let l = c.loop-i in
    row_room _ l.i (length l.bytes) c.column_at-column.result (sym c.column_at-column.ensures.0) (each_sound _ _ c.requires.1 l.i (omega arith)) (omega arith)

pub loop-i-preserved : goal.loop-i-preserved
loop-i-preserved c = λ e.
    let l = c.loop-i in
    let t = c.args.table.now in
    let column = c.column_at-column in
    let byte = c.claim_bytes-bytes_free in
    let bit = c.claim-bit_free in
    let next : l.i + 1 ≤ column_count t = omega arith in
    let marks = and_both l.sure _ e in
    let free = and_both byte.result _ marks.1 in
    surely_on t l.i l.bytes l.bits byte.new.marks bit.new.marks column.result (sym column.ensures.0)
    (λ i h. each_sound t (column_count t) c.requires.1 i (omega (arith, h, next))) (omega arith) (omega arith) byte.ensures.marks bit.ensures.marks
    (l.invariant marks.0) (byte.ensures.free free.0) (bit.ensures.free free.1) (λ i j k h. c.requires.3 i j k (omega (arith, h, next)))
