use Rattle.std.proofs.Common.{◌/◌, length, ap, ap₂, ◌∙◌}
use Rattle.std.specs.List.{fold}
use Rattle.crc.specs.Checksum.{checksum_from}
use Rattle.crc.proofs.ChecksumLaws.{checksum_parts}
use Rattle.crc.proofs.checksum_from.Goals as goal

pub returns : goal.returns
returns c =
    let a = c.args in
    let parts = c.as_chunks.ensures in
    c.rest_on.ensures
    ∙ ap₂ checksum_from (c.eights_on.ensures ∙ ap (fold checksum_from a.start) parts.front) parts.back
    ∙ checksum_parts 8 (length a.bytes.now / 8) a.start a.bytes.now
