-- What upper layers may know of the header. Assumes nothing.
use Prim.Native.Nat.{ℕ, ◌+◌, ◌-◌, ◌≤◌, ◌<◌}
use mathlib.Core.Path.{◌≡◌, refl, sym, ap, ap₂, ◌∙◌}
use mathlib.Core.Bool.{Bool, true, false, ◌&&◌, cond}
use mathlib.Core.Logic.{◌↔◌, ◌⊎◌, inl, inr, ⊎_elim}
use mathlib.Core.List.{List, [], ◌∷◌, ◌++◌}
use native.Mathlib.Nat.{zero-add}
use native.Mathlib.Omega.{arith}
use lib.Dec.{eqb, leb}
use lib.ListN.{length}
use borrow.Author.Tests.{leb-true, eqb-true, le-leb, eq-eqb}
use Rattle.laws.proofs.Tests.{and_both, both_and, either, or_left, or_right}
use Rattle.le.specs.Bytes.{little_endian, byte, field, part}
use Rattle.le.proofs.FieldLaws.{part_part, part_append, byte_part, field_none, field_cut}
use Rattle.crc.specs.Checksum.{checksum, checksum_from}
use Rattle.crc.proofs.ChecksumLaws.{checksum_append}
use Rattle.refusal.specs.declared.Refusal.{Refusal}
use Rattle.refusal.specs.declared.Fault.TheVariants.{ImageLength, HeaderChecksum, Encoding}
use Rattle.refusal.specs.Order.{◌at◌, Rule, rule, ◌then◌, in_order, AllHold, none, both, FirstFault}
use Rattle.refusal.proofs.OrderLaws.{demanded, then_left, accepted_exactly, refused_exactly, in_order_append}
use Rattle.edition.specs.declared.Edition.{Edition}
use Rattle.edition.specs.declared.Layout.{Layout}
use Rattle.edition.specs.Fair.{FairLayout}
use Rattle.header.specs.Header.{length_fits, magic_fits, client_fits, version_of, older, version_fits, edition_of, places_of, nodes_of, blocks_of, header_sum_fits, whole_fits, sentinel_fits, method_place, method_of, encoding_fits, end_place, stated_end, end_fits, mark_rules, seal_rules, last_rules, header_rules, header_fits, reference_at, root_at, says, file_end}
use Rattle.header.specs.declared.Header.{Header}
use Rattle.header.specs.Sound.{HeaderSound}
use Rattle.header.proofs.EditionLaws.{fair_places, fair_nodes, fair_blocks}
use Rattle.std.specs.Prelude.{Ok, Err}

pub long_enough : (image : List ℕ) → length_fits image ≡ true → 564 ≤ length image
unfolding length_fits
long_enough image e = leb-true 564 (length image) (and_both (leb 564 (length image)) (leb (length image) 1073741824) e).0

pub marks_long : (image : List ℕ) → in_order (mark_rules image) ≡ Ok tt → 564 ≤ length image
unfolding mark_rules in_order
marks_long image e = long_enough image (demanded _ _ (then_left _ _ e))

-- the header's test is that of its rules
pub header_rules_lem : (image : List ℕ) → header_fits image ≡ in_order (header_rules image)
unfolding header_fits
header_rules_lem image = refl

-- the marks, then the seals; and then the last two
pub fields_are : (image : List ℕ) → in_order (mark_rules image ++ seal_rules image) ≡ (in_order (mark_rules image) then in_order (seal_rules image))
fields_are image = in_order_append (mark_rules image) (seal_rules image)

pub header_is : (image : List ℕ) → header_fits image ≡ (in_order (mark_rules image ++ seal_rules image) then in_order (last_rules image))
unfolding header_fits
header_is image = in_order_append (mark_rules image ++ seal_rules image) (last_rules image)

pub fields_long : (image : List ℕ) → in_order (mark_rules image ++ seal_rules image) ≡ Ok tt → 564 ≤ length image
fields_long image e = marks_long image (then_left _ _ (sym (fields_are image) ∙ e))

-- the second checksum goes on from the first
pub sum_goes_on : (image s : List ℕ) (partial sum : ℕ) → partial ≡ checksum (part image 8 471) → sum ≡ checksum_from partial s → s ≡ part image 479 45
    → sum ≡ checksum (part image 8 516)
unfolding checksum
sum_goes_on image s partial sum e h g =
    h ∙ ap₂ checksum_from e g ∙ sym (ap (checksum_from 0) (part_append image 8 471 45) ∙ checksum_append 0 (part image 8 471) (part image 479 45))

-- an image that ends before a field holds nothing of it
pub held_none : (image : List ℕ) (place width : ℕ) → length image ≤ place → 0 ≡ field image place width
held_none image place width h =
    let none : length image - place ≡ 0 = omega arith in
    sym (field_none image place) ∙ ap (field image place) (sym none) ∙ field_cut image place width (omega arith)

-- the file ends inside the image
pub end_inside : (image : List ℕ) → file_end image ≤ length image
unfolding file_end
end_inside image = omega arith

-- at or before the file's end is at or before both
pub end_both : (image : List ℕ) (n : ℕ) → (n ≤ file_end image) ↔ ((n ≤ stated_end image) × (n ≤ length image))
unfolding file_end
end_both image n = ((λ h. (omega arith, omega arith)), (λ h. let a = h.0 in let b = h.1 in omega arith))

four : (a b c d : Bool) → (a && b && c && d) ≡ true → (a ≡ true) × (b ≡ true) × (c ≡ true) × (d ≡ true)
four a b c d e =
    let x = and_both (a && b && c) d e in
    let y = and_both (a && b) c x.0 in
    let z = and_both a b y.0 in
    (z.0, z.1, y.1, x.1)

-- the three versions
abbrev Known : List ℕ → Type 0
Known image = (version_of image ≡ 23) ⊎ (version_of image ≡ 14) ⊎ (version_of image ≡ 15)

known_of : (image : List ℕ) → version_fits image ≡ true → Known image
unfolding version_fits older
known_of image e =
    ⊎_elim (λ (v : eqb (version_of image) 23 ≡ true). inl (eqb-true _ _ v))
    (λ (h : older image ≡ true).
    ⊎_elim (λ (v : eqb (version_of image) 14 ≡ true). inr (inl (eqb-true _ _ v))) (λ (v : eqb (version_of image) 15 ≡ true). inr (inr (eqb-true _ _ v))) (either _ _ h))
    (either _ _ e)

of_known : (image : List ℕ) → Known image → version_fits image ≡ true
unfolding version_fits older
of_known image (inl e) = or_left _ _ (eq-eqb _ _ e)
of_known image (inr (inl e)) = or_right (eqb (version_of image) 23) _ (or_left _ _ (eq-eqb _ _ e))
of_known image (inr (inr e)) = or_right (eqb (version_of image) 23) _ (or_right (eqb (version_of image) 14) _ (eq-eqb _ _ e))

-- the second checksum, where there is one
pub whole_is : (image : List ℕ) → (places_of image).whole ≡ true → whole_fits image ≡ header_sum_fits image 524 516
unfolding whole_fits
whole_is image e = rw e

pub no_whole : (image : List ℕ) → (places_of image).whole ≡ false → whole_fits image ≡ true
unfolding whole_fits
no_whole image e = rw e

of_whole : (image : List ℕ) (b : Bool) → (places_of image).whole ≡ b → ((places_of image).whole ≡ true → field image 524 4 ≡ checksum (part image 8 516)) → whole_fits image ≡ true
unfolding header_sum_fits
of_whole image true e h = whole_is image e ∙ eq-eqb _ _ (h e)
of_whole image false e h = no_whole image e

sound_of : (image : List ℕ) → AllHold (header_rules image) → HeaderSound image
unfolding mark_rules seal_rules last_rules length_fits magic_fits client_fits header_sum_fits sentinel_fits encoding_fits end_fits
sound_of image (both l (both m (both c (both v (both p (both f (both s (both e (both n none))))))))) =
    let bounds = and_both (leb 564 (length image)) (leb (length image) 1073741824) l in
    let marks = four (eqb (byte image 0) 0x21) (eqb (byte image 1) 0x42) (eqb (byte image 2) 0x44) (eqb (byte image 3) 0x4E) m in
    let client = and_both (eqb (byte image 8) 0x53) (eqb (byte image 9) 0x4D) c in
    record {
      length_low = leb-true _ _ bounds.0;
      length_high = leb-true _ _ bounds.1;
      magic = (eqb-true _ _ marks.0, eqb-true _ _ marks.1, eqb-true _ _ marks.2, eqb-true _ _ marks.3);
      client = (eqb-true _ _ client.0, eqb-true _ _ client.1);
      version = known_of image v;
      partial = eqb-true _ _ p;
      full = λ e. eqb-true _ _ (sym (whole_is image e) ∙ f);
      sentinel = eqb-true _ _ s;
      encoding = leb-true _ _ e;
      end = leb-true _ _ n;
    }

holds_of : (image : List ℕ) → HeaderSound image → AllHold (header_rules image)
unfolding mark_rules seal_rules last_rules length_fits magic_fits client_fits header_sum_fits sentinel_fits encoding_fits end_fits
holds_of image h =
    both (both_and _ _ (le-leb _ _ h.length_low) (le-leb _ _ h.length_high))
    (both (both_and _ _ (both_and _ _ (both_and _ _ (eq-eqb _ _ h.magic.0) (eq-eqb _ _ h.magic.1)) (eq-eqb _ _ h.magic.2)) (eq-eqb _ _ h.magic.3))
    (both (both_and _ _ (eq-eqb _ _ h.client.0) (eq-eqb _ _ h.client.1))
    (both (of_known image h.version)
    (both (eq-eqb _ _ h.partial)
    (both (of_whole image (places_of image).whole refl h.full)
    (both (eq-eqb _ _ h.sentinel)
    (both (le-leb _ _ h.encoding)
    (both (le-leb _ _ h.end) none))))))))

-- the header is accepted exactly when each of its rules holds
pub header_exactly : (image : List ℕ) → (header_fits image ≡ Ok tt) ↔ HeaderSound image
unfolding header_fits
header_exactly image = (
  (λ e. sound_of image ((accepted_exactly (header_rules image)).0 e)),
  (λ h. (accepted_exactly (header_rules image)).1 (holds_of image h)),
)

-- a refusal names the first fault: its test fails, and each test before it holds
pub header_first_fault : (image : List ℕ) (r : Refusal) → (header_fits image ≡ Err r) ↔ FirstFault (header_rules image) r
unfolding header_fits
header_first_fault image r = refused_exactly (header_rules image) r

-- an accepted image has a whole header
pub header_length : (image : List ℕ) → header_fits image ≡ Ok tt → 564 ≤ length image
header_length image e = ((header_exactly image).0 e).length_low

-- bytes that agree up to a place have the same parts before it
pub part_agrees : (one other : List ℕ) (end : ℕ) → part one 0 end ≡ part other 0 end → (place size : ℕ) → place + size ≤ end → part one place size ≡ part other place size
part_agrees one other end same place size h =
    ap (λ (k : ℕ). part one k size) (sym (zero-add place)) ∙ sym (part_part one 0 end place size h)
    ∙ ap (λ (s : List ℕ). part s place size) same
    ∙ part_part other 0 end place size h ∙ ap (λ (k : ℕ). part other k size) (zero-add place)

-- images that agree in their first 564 bytes have the same fields there
byte_agrees : (one other : List ℕ) → part one 0 564 ≡ part other 0 564 → (place : ℕ) → place < 564 → byte one place ≡ byte other place
byte_agrees one other same place h =
    ap (byte one) (sym (zero-add place)) ∙ sym (byte_part one 0 564 place h)
    ∙ ap (λ (s : List ℕ). byte s place) same
    ∙ byte_part other 0 564 place h ∙ ap (byte other) (zero-add place)

pub field_agrees : (one other : List ℕ) (place width : ℕ) → part one 0 564 ≡ part other 0 564 → place + width ≤ 564
    → field one place width ≡ field other place width
unfolding field
field_agrees one other place width same h = ap little_endian (part_agrees one other 564 same place width h)

-- they are of one edition
pub edition_agrees : (one other : List ℕ) → part one 0 564 ≡ part other 0 564 → edition_of one ≡ edition_of other
unfolding edition_of older version_of
edition_agrees one other same = rw (field_agrees one other 10 2 same (omega arith))

-- and, where their lengths are in bounds alike and reach the header's number alike, it is accepted or refused alike
pub stated_agrees : (one other : List ℕ) → part one 0 564 ≡ part other 0 564 → stated_end one ≡ stated_end other
unfolding stated_end
stated_agrees one other same =
    field_agrees one other (end_place one) (places_of one).end.width same (fair_places one).end.ends
    ∙ ap (λ (E : Edition). field other E.header.end.place E.header.end.width) (edition_agrees one other same)

pub method_agrees : (one other : List ℕ) → part one 0 564 ≡ part other 0 564 → method_of one ≡ method_of other
unfolding method_of
method_agrees one other same =
    byte_agrees one other same (method_place one) (omega (arith, (fair_places one).sentinel))
    ∙ ap (λ (E : Edition). byte other (E.header.sentinel + 1)) (edition_agrees one other same)

root_agrees : (one other : List ℕ) (L : Layout) → FairLayout L → part one 0 564 ≡ part other 0 564 → root_at one L ≡ root_at other L
unfolding reference_at
root_agrees one other L fair same =
    rw (
      field_agrees one other L.root L.word same (omega (arith, fair.root)),
      field_agrees one other (L.root + L.word) L.word same (omega (arith, fair.root)),
    )

-- what the header says, read as one of this edition
headed : List ℕ → Edition → Header
headed image E = record { method = method_of image; nodes = root_at image E.nodes; blocks = root_at image E.blocks; end = stated_end image; edition = E.bits }

pub says_agrees : (one other : List ℕ) → part one 0 564 ≡ part other 0 564 → says one ≡ says other
unfolding says headed
says_agrees one other same =
    rw (
      method_agrees one other same,
      root_agrees one other (nodes_of one) (fair_nodes one) same,
      root_agrees one other (blocks_of one) (fair_blocks one) same,
      stated_agrees one other same,
    )
    (ap (λ (E : Edition). headed other E) (edition_agrees one other same))

sum_agrees : (one other : List ℕ) (place size : ℕ) → part one 0 564 ≡ part other 0 564 → place + 4 ≤ 564 → 8 + size ≤ 564
    → header_sum_fits one place size ≡ header_sum_fits other place size
unfolding header_sum_fits
sum_agrees one other place size same h g = rw (field_agrees one other place 4 same h, part_agrees one other 564 same 8 size g)

whole_agrees : (one other : List ℕ) → part one 0 564 ≡ part other 0 564 → whole_fits one ≡ whole_fits other
unfolding whole_fits
whole_agrees one other same =
    ap (λ (b : Bool). cond (places_of one).whole b true) (sum_agrees one other 524 516 same (omega arith) (omega arith))
    ∙ ap (λ (E : Edition). cond E.header.whole (header_sum_fits other 524 516) true) (edition_agrees one other same)

sentinel_agrees : (one other : List ℕ) → part one 0 564 ≡ part other 0 564 → sentinel_fits one ≡ sentinel_fits other
unfolding sentinel_fits
sentinel_agrees one other same =
    ap (λ (b : ℕ). eqb b 0x80) (byte_agrees one other same (places_of one).sentinel (omega (arith, (fair_places one).sentinel)))
    ∙ ap (λ (E : Edition). eqb (byte other E.header.sentinel) 0x80) (edition_agrees one other same)

version_agrees : (one other : List ℕ) → part one 0 564 ≡ part other 0 564 → version_fits one ≡ version_fits other
unfolding version_fits older version_of
version_agrees one other same = rw (field_agrees one other 10 2 same (omega arith))

-- the header's rules, with the places that an edition has
rules_at : List ℕ → Edition → List Rule
rules_at image E =
    (
    mark_rules image
    ++ (rule (header_sum_fits image 4 471) (HeaderChecksum at 4) ∷ rule (whole_fits image) (HeaderChecksum at 524) ∷ rule (sentinel_fits image) (Encoding at E.header.sentinel) ∷ [])
    )
    ++ (rule (encoding_fits image) (Encoding at (E.header.sentinel + 1)) ∷ rule (end_fits image) (ImageLength at E.header.end.place) ∷ [])

pub rules_agree : (one other : List ℕ) → part one 0 564 ≡ part other 0 564 → length_fits one ≡ length_fits other → end_fits one ≡ end_fits other → header_fits one ≡ header_fits other
unfolding header_fits mark_rules seal_rules last_rules magic_fits client_fits encoding_fits rules_at
rules_agree one other same bounds ends =
    let b = byte_agrees one other same in
    rw (
      bounds,
      ends,
      b 0 (omega arith),
      b 1 (omega arith),
      b 2 (omega arith),
      b 3 (omega arith),
      b 8 (omega arith),
      b 9 (omega arith),
      version_agrees one other same,
      sum_agrees one other 4 471 same (omega arith) (omega arith),
      whole_agrees one other same,
      sentinel_agrees one other same,
      method_agrees one other same,
    )
    (ap (λ (E : Edition). in_order (rules_at other E)) (edition_agrees one other same))

-- images of one length that agree in their first 564 bytes end alike, and have the same header
pub end_agrees : (one other : List ℕ) → length one ≡ length other → part one 0 564 ≡ part other 0 564 → file_end one ≡ file_end other
unfolding file_end
end_agrees one other e same = rw (stated_agrees one other same, e)

pub header_agrees : (one other : List ℕ) → length one ≡ length other → part one 0 564 ≡ part other 0 564 → header_fits one ≡ header_fits other
unfolding length_fits end_fits
header_agrees one other e same = rules_agree one other same (rw e) (rw (stated_agrees one other same, e))
