use Prim.Native.Nat.{ℕ}
use mathlib.Core.Path.{ap, ◌∙◌}
use native.Mathlib.Omega.{arith}
use lib.Dec.{eqb}
use Rattle.le.specs.Bytes.{byte}
use Rattle.edition.specs.declared.HeaderPlaces.{HeaderPlaces}
use Rattle.header.specs.Header.{sentinel_fits}
use Rattle.header.proofs.EditionLaws.{fair_places}
use Rattle.header.proofs.sentinel_fits.Goals as goal

pub byte_at-requires : goal.byte_at-requires
byte_at-requires c =
    let a = c.args in
    omega (arith, (fair_places a.image.now).sentinel, ap (λ (p : HeaderPlaces). p.sentinel) c.requires.1)

pub returns : goal.returns
unfolding sentinel_fits
returns c =
    ap (λ (b : ℕ). eqb b 0x80) (c.byte_at.ensures ∙ ap (λ (p : HeaderPlaces). byte c.args.image.now p.sentinel) c.requires.1)
