-- A header whose version is neither 14 nor 15 is read with the numbers of the 64-bit edition. Assumes nothing.
use Prim.Native.Nat.{ℕ, ◌+◌, min}
use mathlib.Core.Path.{◌≡◌, refl, ap, ap₂, ◌∙◌}
use mathlib.Core.Bool.{Bool, true, false, ◌||◌, cond}
use mathlib.Core.List.{List, [], ◌∷◌}
use lib.Dec.{eqb, leb}
use lib.ListN.{length}
use Rattle.le.specs.Bytes.{field, byte}
use Rattle.refusal.specs.declared.Fault.TheVariants.{ImageLength, Magic, Version, HeaderChecksum, Encoding}
use Rattle.refusal.specs.Order.{◌at◌, Rule, rule}
use Rattle.edition.specs.declared.Edition.{Edition}
use Rattle.edition.specs.Editions.{places64, nbt64, bbt64, edition64}
use Rattle.header.specs.declared.Header.{Header}
use Rattle.header.specs.Header.{length_fits, magic_fits, client_fits, version_of, older, version_fits, header_sum_fits, whole_fits, sentinel_fits, method_of, encoding_fits, stated_end, end_fits, mark_rules, seal_rules, last_rules, header_rules, reference_at, root_at, says, file_end}
use Rattle.header.specs.Former.{rules64, says64, end64}
use Rattle.header.proofs.EditionLaws.{newer_is}

-- the rules, what the header says and where the file ends, read as of an edition; the version's rule apart
rules_as : List ℕ → Edition → Bool → List Rule
rules_as image E known =
    rule (length_fits image) (ImageLength at 0)
    ∷ rule (magic_fits image) (Magic at 0)
    ∷ rule (client_fits image) (Magic at 8)
    ∷ rule known (Version at 10)
    ∷ rule (header_sum_fits image 4 471) (HeaderChecksum at 4)
    ∷ rule (cond E.header.whole (header_sum_fits image 524 516) true) (HeaderChecksum at 524)
    ∷ rule (eqb (byte image E.header.sentinel) 0x80) (Encoding at E.header.sentinel)
    ∷ rule (leb (byte image (E.header.sentinel + 1)) 2) (Encoding at (E.header.sentinel + 1))
    ∷ rule (leb (field image E.header.end.place E.header.end.width) (length image)) (ImageLength at E.header.end.place)
    ∷ []

says_as : List ℕ → Edition → Header
says_as image E =
    record {
      method = byte image (E.header.sentinel + 1);
      nodes = root_at image E.nodes;
      blocks = root_at image E.blocks;
      end = field image E.header.end.place E.header.end.width;
      edition = E.bits;
    }

end_as : List ℕ → Edition → ℕ
end_as image E = min (field image E.header.end.place E.header.end.width) (length image)

or_false : (b : Bool) → (b || false) ≡ b
or_false true = refl
or_false false = refl

module _ (image : List ℕ) (newer : older image ≡ false) where
  version_as_before : version_fits image ≡ eqb (field image 10 2) 23
  unfolding version_fits version_of
  version_as_before = ap (λ (b : Bool). eqb (field image 10 2) 23 || b) newer ∙ or_false (eqb (field image 10 2) 23)

  pub rules_as_before : header_rules image ≡ rules64 image
  unfolding mark_rules seal_rules last_rules whole_fits sentinel_fits encoding_fits method_of end_fits stated_end rules_as rules64 edition64 places64
  rules_as_before = ap₂ (rules_as image) (newer_is image newer) version_as_before

  pub says_as_before : says image ≡ says64 image
  unfolding says method_of stated_end reference_at says_as says64 edition64 places64 nbt64 bbt64
  says_as_before = ap (says_as image) (newer_is image newer)

  pub end_as_before : file_end image ≡ end64 image
  unfolding file_end stated_end end_as end64 edition64 places64
  end_as_before = ap (end_as image) (newer_is image newer)
