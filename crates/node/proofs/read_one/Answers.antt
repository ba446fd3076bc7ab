use mathlib.Core.Path.{sym, ◌∙◌}
use native.Mathlib.Omega.{arith}
use Rattle.block.specs.Block.{block_bytes}
use Rattle.block.proofs.BlockLaws.{bytes_length}
use Rattle.node.proofs.Outcomes.{short_outcome, done_outcome}
use Rattle.node.proofs.read_one.Goals as goal

pub returns-then-out-size : goal.returns-then-out-size
returns-then-out-size c =
    let a = c.args in
    let o = short_outcome (block_bytes a.image.now a.b) a.out.now a.b.size (sym (bytes_length a.image.now a.b c.requires.1)) (omega arith) in
    record { answer = c.refused_needing.ensures ∙ o.0; buffer = o.1 }

pub returns : goal.returns
returns c =
    let a = c.args in
    let o = done_outcome (block_bytes a.image.now a.b) a.out.now a.b.size (sym (bytes_length a.image.now a.b c.requires.1)) (omega arith) in
    record { answer = o.0; buffer = c.block_into.ensures ∙ o.1 }
