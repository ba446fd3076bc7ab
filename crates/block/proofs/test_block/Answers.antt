use Rattle.std.proofs.Common.{rules, ◌≡◌, ap, ◌∙◌, Err}
use Rattle.block.specs.Block.{size_in, test_of}
use Rattle.block.proofs.test_block.Goals as goal

pub returns-in_err-check_block : goal.returns-in_err-check_block
unfolding test_of size_in
returns-in_err-check_block c =
    let e : c.from_residual.result ≡ Err c.in_err-check_block.field-0.0 = search rules in
    e ∙ ap size_in c.in_err-check_block.ensures

pub returns : goal.returns
unfolding test_of size_in
returns c = ap size_in c.in_ok-check_block.ensures
