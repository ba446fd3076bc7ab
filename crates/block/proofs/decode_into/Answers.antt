use Rattle.block.specs.Block.{plain}
use Rattle.laws.proofs.Fronts.{front}
use Rattle.block.proofs.BlockLaws.{plain_length}
use Rattle.block.proofs.decode_into.Goals as goal

pub returns : goal.returns
returns c =
    let a = c.args in
    front (plain a.method a.block) a.bytes.now a.out.now c.copy.new.out c.make_plain.new.bytes c.copy.ensures
    (plain_length a.method a.block a.bytes.now) c.make_plain.ensures
