use Prim.Native.Nat.{◌+◌}
use mathlib.Core.Path.{◌≡◌}
use lib.Dec.{leb}
use Rattle.page.specs.Page.{offset_fits}
use Rattle.page.proofs.offset_fits.Goals as goal

pub returns : goal.returns
unfolding offset_fits
returns c =
    let a = c.args in
    let ends : c.ends_by.result ≡ leb (a.offset + 512) c.file_end.result = c.ends_by.ensures in
    rw (ends, c.file_end.ensures)
