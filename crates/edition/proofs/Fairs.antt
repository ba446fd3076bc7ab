-- The two editions are fair. Assumes nothing.
use Rattle.std.proofs.Common.{rules}
use Rattle.edition.specs.Editions.{places64, nbt64, bbt64, trailer64, root64, edition64, places32, nbt32, bbt32, trailer32, root32, edition32}
use Rattle.edition.specs.Fair.{FairEdition}

pub fair_edition64 : FairEdition edition64
unfolding edition64 places64 nbt64 bbt64 trailer64 root64
fair_edition64 = search rules

pub fair_edition32 : FairEdition edition32
unfolding edition32 places32 nbt32 bbt32 trailer32 root32
fair_edition32 = search rules
