use Rattle.block.specs.Block.{trailer_fits}
use Rattle.block.proofs.trailer_fits.Goals as goal

pub returns : goal.returns
unfolding trailer_fits
returns c =
    rw (
      c.field2-size.ensures,
      c.cleared.ensures,
      c.cleared-2.ensures,
      c.field_of-stated.ensures.0,
      c.field2.ensures,
      c.signature.ensures,
    )
