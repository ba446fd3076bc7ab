use Rattle.std.proofs.Common.{rules, ◌≡◌, sym, ◌∙◌, Err}
use native.Mathlib.Omega.{arith}
use Rattle.block.proofs.BlockLaws.{read_ends, read_short, read_fills, checked_large, checked_inside}
use Rattle.block.proofs.read_block.Goals as goal

pub returns-in_err-b : goal.returns-in_err-b
returns-in_err-b c =
    let a = c.args in
    let e : c.from_residual.result ≡ Err c.in_err-b.field-0.0 = search rules in
    let r = read_ends a.e a.image.now a.block a.out.now _ (sym c.in_err-b.ensures) in
    record { answer = e ∙ r.0; buffer = r.1 }

pub returns-then-out-size : goal.returns-then-out-size
returns-then-out-size c =
    let a = c.args in
    let r = read_short a.e a.image.now a.block a.out.now _ (sym c.in_ok-b.ensures) (omega arith) in
    record { answer = c.refused_needing.ensures ∙ r.0; buffer = r.1 }

pub block_into-requires : goal.block_into-requires
block_into-requires c =
    (checked_large _ _ _ _ (sym c.in_ok-b.ensures), checked_inside _ _ _ _ (sym c.in_ok-b.ensures), omega arith)

pub returns : goal.returns
returns c =
    let a = c.args in
    let r = read_fills a.e a.image.now a.block a.out.now _ (sym c.in_ok-b.ensures) (omega arith) in
    record { answer = r.0; buffer = c.block_into.ensures ∙ r.1 }
