use Rattle.block.specs.Block.{trailer_of, stored}
use mathlib.Core.Path.{◌∙◌}
use native.Mathlib.Omega.{arith}
use Rattle.laws.proofs.Tests.{fails, holds}
use Rattle.le.proofs.FieldLaws.{part_is}
use Rattle.block.proofs.BlockLaws.{placed_of, room_inside, room_holds, block_ends, block_goes}
use Rattle.block.proofs.test_listed.Goals as goal

pub returns-then-not-place_fits : goal.returns-then-not-place_fits
returns-then-not-place_fits c = c.refused_at.ensures ∙ block_ends _ _ _ (fails _ _ c.place_fits.ensures c.if-not-place_fits.true)

pub room_for-requires : goal.room_for-requires
room_for-requires c =
    let a = c.args in
    (omega (arith, (placed_of a.t a.image.now a.b (holds _ _ c.place_fits.ensures c.if-not-place_fits.false)).few, c.requires.most), c.requires.small)

pub overflow_sub-start : goal.overflow_sub-start
overflow_sub-start c =
    let a = c.args in
    omega (arith, c.room_for.ensures, room_holds a.t a.b.size)

pub overflow_add-start : goal.overflow_add-start
overflow_add-start c =
    let a = c.args in
    omega (arith, c.room_for.ensures, room_holds a.t a.b.size, room_inside a.t a.image.now a.b (holds _ _ c.place_fits.ensures c.if-not-place_fits.false))

pub overflow_add-start-2 : goal.overflow_add-start-2
overflow_add-start-2 c =
    let a = c.args in
    omega (arith, c.room_for.ensures, room_holds a.t a.b.size, room_inside a.t a.image.now a.b (holds _ _ c.place_fits.ensures c.if-not-place_fits.false))

pub slice_bounds-test_bytes-end : goal.slice_bounds-test_bytes-end
slice_bounds-test_bytes-end c =
    let a = c.args in
    omega (arith, c.room_for.ensures, room_holds a.t a.b.size, room_inside a.t a.image.now a.b (holds _ _ c.place_fits.ensures c.if-not-place_fits.false))

pub overflow_add-at : goal.overflow_add-at
overflow_add-at c =
    let a = c.args in
    omega (arith, room_holds a.t a.b.size, room_inside a.t a.image.now a.b (holds _ _ c.place_fits.ensures c.if-not-place_fits.false))

pub slice_bounds-test_bytes-end-2 : goal.slice_bounds-test_bytes-end-2
slice_bounds-test_bytes-end-2 c =
    let a = c.args in
    omega (arith, room_holds a.t a.b.size, room_inside a.t a.image.now a.b (holds _ _ c.place_fits.ensures c.if-not-place_fits.false))

pub returns : goal.returns
unfolding trailer_of stored
returns c =
    let a = c.args in
    c.test_bytes.ensures
    ∙ rw (part_is, part_is, c.room_for.ensures) (block_goes a.t a.image.now a.b (holds _ _ c.place_fits.ensures c.if-not-place_fits.false))
