-- The header with the numbers of the 64-bit edition put in: document 01, "Header", and document 02, 6/13, before there was another. Assumes nothing: these are definitions.
use Rattle.std.specs.Prelude.{ℕ, min, List, [], ◌∷◌, eqb, leb, length}
use Rattle.le.specs.Bytes.{field, byte}
use Rattle.refusal.specs.declared.Fault.TheVariants.{ImageLength, Magic, Version, HeaderChecksum, Encoding}
use Rattle.refusal.specs.Order.{◌at◌, Rule, rule}
use Rattle.header.specs.declared.Header.{Header}
use Rattle.header.specs.Header.{length_fits, magic_fits, client_fits, header_sum_fits}

unfoldable pub rules64 : List ℕ → List Rule
rules64 image =
    rule (length_fits image) (ImageLength at 0)
    ∷ rule (magic_fits image) (Magic at 0)
    ∷ rule (client_fits image) (Magic at 8)
    ∷ rule (eqb (field image 10 2) 23) (Version at 10)
    ∷ rule (header_sum_fits image 4 471) (HeaderChecksum at 4)
    ∷ rule (header_sum_fits image 524 516) (HeaderChecksum at 524)
    ∷ rule (eqb (byte image 512) 0x80) (Encoding at 512)
    ∷ rule (leb (byte image 513) 2) (Encoding at 513)
    ∷ rule (leb (field image 184 8) (length image)) (ImageLength at 184)
    ∷ []

unfoldable pub says64 : List ℕ → Header
says64 image =
    record {
      method = byte image 513;
      nodes = record { number = field image 216 8; offset = field image 224 8 };
      blocks = record { number = field image 232 8; offset = field image 240 8 };
      end = field image 184 8;
      edition = 64;
    }

unfoldable pub end64 : List ℕ → ℕ
end64 image = min (field image 184 8) (length image)
