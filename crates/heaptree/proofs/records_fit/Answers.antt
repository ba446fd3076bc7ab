use Prim.Native.Nat.{ℕ}
use mathlib.Core.Path.{ap, ap₂, ◌∙◌}
use mathlib.Core.Bool.{Bool, ◌&&◌}
use lib.Dec.{leb}
use lib.ListN.{length}
use Rattle.keys.specs.Records.{keys_of}
use Rattle.keys.specs.Range.{ordered, climbing}
use Rattle.heaptree.specs.Branches.{record_count, records_fit}
use Rattle.heaptree.proofs.RecordLaws.{records_hold}
use Rattle.heaptree.proofs.records_fit.Goals as goal

pub check_keys-order-requires : goal.check_keys-order-requires
check_keys-order-requires c =
    let p = c.requires in
    rw p.3 (records_hold c.args.shape c.args.bytes.now p.1 p.2)

pub nothing_left-requires : goal.nothing_left-requires
unfolding record_count
nothing_left-requires c = c.requires.3

pub returns : goal.returns
unfolding records_fit
returns c =
    let a = c.args in
    let n = length a.bytes.now in
    ap₂ (λ (whole order : Bool). leb 1 n && whole && order) c.nothing_left.ensures
    (c.is_climbing.ensures ∙ ap climbing (c.check_keys-order.ensures ∙ ap (λ (m : ℕ). ordered a.range (keys_of a.shape m a.bytes.now)) c.requires.3))
