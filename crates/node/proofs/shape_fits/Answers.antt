use native.Mathlib.Omega.{arith}
use Rattle.le.specs.Bytes.{byte}
use Rattle.node.specs.Content.{shape_fits, count_in, numbers_in}
use Rattle.node.proofs.Numbers.{too_short, too_few, place_small, same_whole}
use Rattle.node.proofs.shape_fits.Goals as goal

pub returns-then-size-lt8 : goal.returns-then-size-lt8
returns-then-size-lt8 c =
    let a = c.args in
    too_short a.d a.root.now (omega arith)

pub overflow_mul-whole : goal.overflow_mul-whole
overflow_mul-whole c = omega (arith, place_small c.args.d.word c.field2-count.result c.requires.word (omega arith))

pub overflow_add-whole : goal.overflow_add-whole
overflow_add-whole c = omega (arith, place_small c.args.d.word c.field2-count.result c.requires.word (omega arith))

pub returns-then-size-whole : goal.returns-then-size-whole
unfolding count_in
returns-then-size-whole c =
    let a = c.args in
    too_few a.d a.root.now (omega (arith, same_whole a.d.word c.field2-count.ensures))

pub returns : goal.returns
unfolding shape_fits count_in numbers_in byte
returns c = rw (c.none_internal.ensures, c.field2-count.ensures)
