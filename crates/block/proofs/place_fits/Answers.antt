use mathlib.Core.Path.{◌≡◌}
use native.Mathlib.Omega.{arith}
use Rattle.block.specs.Block.{room_for, place_fits}
use Rattle.block.proofs.BlockLaws.{too_large}
use Rattle.block.proofs.place_fits.Goals as goal

pub returns-then-t-size : goal.returns-then-t-size
returns-then-t-size c =
    let a = c.args in
    too_large a.t a.image.now a.b (omega arith)

pub returns : goal.returns
unfolding place_fits
returns c =
    let a = c.args in
    let room : c.room_for.result ≡ room_for a.t a.b.size = c.room_for.ensures in
    rw (c.ends_by.ensures, c.file_end.ensures, room)
