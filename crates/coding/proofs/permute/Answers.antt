use Rattle.std.proofs.Common.{sym, ap, ◌∙◌, arith, set}
use Rattle.std.proofs.lemmas.Grind.{get_or_default_zero}
use Rattle.std.proofs.lemmas.List.Edits.{map_over_more}
use Rattle.coding.specs.Table.{entry}
use Rattle.coding.proofs.permute.Goals as goal

pub loop-byte-preserved : goal.loop-byte-preserved
loop-byte-preserved c =
    let l = c.loop-byte in
    ap (set l.bytes l.byte-index) c.entry_of.ensures
    ∙ map_over_more (entry c.args.from) c.args.bytes.now l.bytes l.byte-index _ (omega arith) l.invariant (sym (get_or_default_zero l.bytes l.byte-index _ (omega arith)))
