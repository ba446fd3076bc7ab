-- What upper layers may know of a page, and what the functions' proofs share. Assumes nothing.
use Prim.Native.Nat.{ℕ, zero, suc, ◌+◌, ◌*◌, ◌-◌, ◌/◌, ◌%◌, ◌^◌, ◌≤◌, ◌<◌}
use mathlib.Core.Path.{◌≡◌, refl, sym, ap, ◌∙◌}
use mathlib.Core.Bool.{true, false, ◌&&◌, ◌||◌}
use mathlib.Core.List.{List, ◌++◌, map}
use mathlib.Core.Logic.{⊎_elim}
use native.Mathlib.Nat.{mod-eq_of_lt, le_trans, mul-le-mul_right}
use native.Mathlib.Omega.{arith}
use lib.Dec.{leb, eqb}
use lib.ListN.{length, take, drop}
use borrow.Author.Tests.{leb-true, eqb-true}
use Rattle.laws.proofs.Tests.{and_both}
use Rattle.le.specs.Bytes.{field, Bytes}
use Rattle.le.proofs.FieldLaws.{part_is, part_length}
use Rattle.le.proofs.ByteLaws.{part_bytes}
use Rattle.refusal.specs.declared.Fault.TheVariants.{PageOffset}
use Rattle.refusal.specs.Order.{◌at◌, in_order, AllHold, both}
use Rattle.refusal.proofs.OrderLaws.{test_goes, test_ends, accepted_exactly}
use Rattle.keys.specs.declared.Shape.{Shape}
use Rattle.keys.specs.Plain.{All}
use Rattle.keys.specs.Records.{cleared, significant, key_of, records, keys_of, RecordsIn}
use Rattle.keys.specs.Range.{ordered}
use Rattle.keys.proofs.ClearedLaws.{significant_most, significant_above}
use Rattle.keys.proofs.RecordLaws.{key_same, keys_same, records_short}
use Rattle.keys.proofs.FoundLaws.{keys_are}
use Rattle.header.specs.Header.{file_end}
use Rattle.header.proofs.HeaderLaws.{end_inside}
use Rattle.edition.specs.declared.Layout.{Layout}
use Rattle.page.specs.declared.Level.TheVariants.{Exactly}
use Rattle.page.specs.declared.Link.{Link}
use Rattle.page.specs.Layout.{as_given, compared, entry_size, most_room, shape}
use Rattle.edition.specs.Fair.{FairLayout}
use Rattle.page.specs.Page.{page, count_of, room_of, size_of, level_of, entries, number_in, key_in, offset_fits, level_fits, may_be_empty, counts_fit, bytes_rules, six_to_ten, keys_in, key_rules, page_rules, page_fits}
use Rattle.page.proofs.KeyLaws.{climbing_of}
use Rattle.std.specs.Prelude.{Ok, Err}

-- a number that a call is given
pub given_whole : (L : Layout) (number : ℕ) → L.sought ≡ 8 → number < 18446744073709551616 → number ≡ as_given L number
unfolding as_given
given_whole L number e h = rw e (sym (mod-eq_of_lt h))

pub given_low : (L : Layout) (number : ℕ) → (L.sought ≡ 8 → ⊥) → FairLayout L → number % 4294967296 ≡ as_given L number
unfolding as_given
given_low L number n fair = ⊎_elim (λ (e : L.sought ≡ 4). rw e) (λ (e : L.sought ≡ 8). absurd (n e)) fair.sought

pub given_small : (L : Layout) (number : ℕ) → number < 256 ^ L.sought → as_given L number ≡ number
unfolding as_given
given_small L number h = mod-eq_of_lt h

-- where bit 0 is reserved, numbers that differ only there are compared alike
halves_alike : (L : Layout) (one other : ℕ) → FairLayout L → L.reserved ≡ true → one / 2 ≡ other / 2 → compared L one ≡ compared L other
unfolding compared as_given significant cleared
halves_alike L one other fair r e =
    ⊎_elim (λ (s : L.sought ≡ 4). rw (r, s) (omega (arith, e))) (λ (s : L.sought ≡ 8). rw (r, s) (omega (arith, e))) fair.sought

pub compared_alike : (L : Layout) (one other : ℕ) → FairLayout L → L.reserved ≡ true → cleared one ≡ cleared other → compared L one ≡ compared L other
unfolding cleared
compared_alike L one other fair r e = halves_alike L one other fair r (omega (arith, e))

-- a page whose offset is allowed ends at or before the file's end, and so lies in the image
pub offset_ends : (image : List ℕ) (offset : ℕ) → offset_fits image offset ≡ true → offset + 512 ≤ file_end image
unfolding offset_fits
offset_ends image offset e = leb-true (offset + 512) (file_end image) (and_both (eqb (offset % 64) 0 && leb 17408 offset) (leb (offset + 512) (file_end image)) e).1

pub offset_inside : (image : List ℕ) (offset : ℕ) → offset_fits image offset ≡ true → offset + 512 ≤ length image
offset_inside image offset e = le_trans (offset_ends image offset e) (end_inside image)

pub page_part : (image : List ℕ) (offset : ℕ) → take (offset + 512 - offset) (drop offset image) ≡ page image offset
unfolding page
page_part image offset = part_is image offset 512

pub page_length : (image : List ℕ) (offset : ℕ) → offset + 512 ≤ length image → length (page image offset) ≡ 512
unfolding page
page_length image offset h = part_length image offset 512 h

-- index pages are those of a level above 0
pub index_size : (L : Layout) (level : ℕ) → (level ≡ 0 → ⊥) → L.indexsize ≡ entry_size L level
unfolding entry_size
index_size L zero h = absurd (h refl)
index_size L (suc l) h = refl

pub index_room : (L : Layout) (level : ℕ) → (level ≡ 0 → ⊥) → L.indexroom ≡ most_room L level
unfolding most_room
index_room L zero h = absurd (h refl)
index_room L (suc l) h = refl

-- each part of test 10
pub record Counts (L : Layout) (p : Link) (g : List ℕ) : Type 0 where
  pub level : level_fits p.level (level_of L g) ≡ true
  pub size : size_of L g ≡ entry_size L (level_of L g)
  pub room : room_of L g ≤ most_room L (level_of L g)
  pub count : count_of L g ≤ room_of L g
  pub some : (leb 1 (count_of L g) || may_be_empty p.level (level_of L g)) ≡ true

pub counts_of : (L : Layout) (p : Link) (g : List ℕ) → counts_fit L p g ≡ true → Counts L p g
unfolding counts_fit
counts_of L p g e =
    let a = level_fits p.level (level_of L g) in
    let b = eqb (size_of L g) (entry_size L (level_of L g)) in
    let r = leb (room_of L g) (most_room L (level_of L g)) in
    let n = leb (count_of L g) (room_of L g) in
    let x = and_both (a && b && r && n) _ e in
    let y = and_both (a && b && r) n x.0 in
    let z = and_both (a && b) r y.0 in
    let w = and_both a b z.0 in
    record { level = w.0; size = eqb-true _ _ w.1; room = leb-true _ _ z.1; count = leb-true _ _ y.1; some = x.1 }

-- the entries of a page whose counts fit lie in the page
sized : (L : Layout) → FairLayout L → (l : ℕ) → (most_room L l * entry_size L l ≤ 512) × (L.word * 3 ≤ entry_size L l) × (most_room L l ≤ 255)
unfolding most_room entry_size
sized L f zero = (f.leafroom, f.leafsize, f.fewleaf)
sized L f (suc l) = (f.indexroom, f.indexsize, f.fewindex)

module _ (L : Layout) (p : Link) (g : List ℕ) (fair : FairLayout L) (ok : counts_fit L p g ≡ true) where
  few_enough : count_of L g ≤ most_room L (level_of L g)
  few_enough = let c = counts_of L p g ok in le_trans c.count c.room

  pub few : count_of L g ≤ 255
  few = le_trans few_enough (sized L fair (level_of L g)).2

  pub words_inside : L.word * 3 ≤ entry_size L (level_of L g)
  words_inside = (sized L fair (level_of L g)).1

  pub entries_held : length g ≡ 512 → RecordsIn (shape L (level_of L g)) (count_of L g) g
  unfolding shape
  entries_held h =
      record {
        inside = omega (arith, mul-le-mul_right {m = count_of L g} {n = most_room L (level_of L g)} (entry_size L (level_of L g)) few_enough, (sized L fair (level_of L g)).0);
        key = omega (arith, (sized L fair (level_of L g)).1, fair.key);
        word = omega (arith, fair.key, fair.word);
      }

-- the entries of a page are records, their shape a matter of its level
pub entries_are : (L : Layout) (g : List ℕ) → entries L g ≡ records (shape L (level_of L g)) (count_of L g) g
unfolding entries
entries_are L g = refl

module _ (L : Layout) (level : ℕ) where
  pub shape_size : (shape L level).size ≡ entry_size L level
  unfolding shape
  shape_size = refl

  pub shape_width : (shape L level).width ≡ L.key
  unfolding shape
  shape_width = refl

  pub shape_reserved : (shape L level).reserved ≡ L.reserved
  unfolding shape
  shape_reserved = refl

  pub leaf_size : level ≡ 0 → (shape L level).size ≡ L.leafsize
  unfolding shape entry_size
  leaf_size e = rw e

-- the key of an entry does not depend on the level of its page
pub entry_keyed : (L : Layout) (s : Shape) → s.width ≡ L.key → s.reserved ≡ L.reserved → (e : List ℕ) → key_of s e ≡ key_in L e
unfolding key_in
entry_keyed L s w r e = key_same s (shape L 0) (w ∙ sym (shape_width L 0)) (r ∙ sym (shape_reserved L 0)) e

pub keys_of_entries : (L : Layout) (g : List ℕ) → keys_of (shape L (level_of L g)) (count_of L g) g ≡ map (key_in L) (entries L g)
unfolding key_in
keys_of_entries L g =
    keys_are (shape L (level_of L g)) (count_of L g) g
    ∙ keys_same (shape L (level_of L g)) (shape L 0) (shape_width L (level_of L g) ∙ sym (shape_width L 0)) (shape_reserved L (level_of L g) ∙ sym (shape_reserved L 0)) (records (shape L (level_of L g)) (count_of L g) g)
    ∙ ap (map (key_of (shape L 0))) (sym (entries_are L g))

-- a child has the level that is asked for, and is not empty
pub level_wanted : (w level : ℕ) → level_fits (Exactly w) level ≡ true → level ≡ w
unfolding level_fits
level_wanted w level e = eqb-true level w e

pub child_filled : (w level : ℕ) → may_be_empty (Exactly w) level ≡ false
unfolding may_be_empty
child_filled w level = refl

-- a page's tests: its rules; 6, then those of its bytes and keys
pub page_rules_lem : (L : Layout) (image : List ℕ) (p : Link) → page_fits L image p ≡ in_order (page_rules L image p)
unfolding page_fits
page_rules_lem L image p = refl

pub page_goes : (L : Layout) (image : List ℕ) (p : Link) → offset_fits image p.offset ≡ true → in_order (bytes_rules L p (page image p.offset) ++ key_rules p (keys_in L (page image p.offset))) ≡ page_fits L image p
unfolding page_fits page_rules six_to_ten in_order
page_goes L image p e = sym (test_goes Err _ _ _ e)

pub page_ends : (L : Layout) (image : List ℕ) (p : Link) → offset_fits image p.offset ≡ false → Err (PageOffset at p.offset) ≡ page_fits L image p
unfolding page_fits page_rules six_to_ten in_order
page_ends L image p e = sym (test_ends Err _ _ (in_order (bytes_rules L p (page image p.offset) ++ key_rules p (keys_in L (page image p.offset)))) e)

-- an accepted page: its counts fit, and its keys climb
pub all_of_page : (L : Layout) (image : List ℕ) (p : Link) → page_fits L image p ≡ Ok tt → AllHold (page_rules L image p)
unfolding page_fits
all_of_page L image p e = (accepted_exactly (page_rules L image p)).0 e

pub page_offset : (L : Layout) (image : List ℕ) (p : Link) → AllHold (page_rules L image p) → p.offset + 512 ≤ length image
unfolding page_rules six_to_ten
page_offset L image p (both o h) = offset_inside image p.offset o

pub page_counts : (L : Layout) (image : List ℕ) (p : Link) → AllHold (page_rules L image p) → counts_fit L p (page image p.offset) ≡ true
unfolding page_rules six_to_ten bytes_rules
page_counts L image p (both o (both k (both n (both c (both t s))))) = t

pub page_keys : (L : Layout) (image : List ℕ) (p : Link) → AllHold (page_rules L image p)
    → ordered p.range (map (key_in L) (entries L (page image p.offset))) ≡ Ok tt
unfolding page_rules six_to_ten bytes_rules keys_in
page_keys L image p (both o (both k (both n (both c (both t s))))) = climbing_of p _ s

-- the numbers of entries made of bytes
pub entries_short : (L : Layout) (image : List ℕ) → Bytes image → (offset : ℕ) → All (λ e. number_in L e < 256 ^ L.key) (entries L (page image offset))
unfolding entries page number_in
entries_short L image h offset = records_short (shape L (level_of L (page image offset))) L.key _ (page image offset) (part_bytes image offset 512 h)

-- a number as stored is no lower than its key, and a higher key lies above it too
pub number_least : (L : Layout) (e : List ℕ) → key_in L e ≤ number_in L e
unfolding key_in key_of number_in shape
number_least L e = significant_most L.reserved (field e 0 L.key)

pub number_above : (L : Layout) (e f : List ℕ) → key_in L e < key_in L f → number_in L e < key_in L f
unfolding key_in key_of number_in shape
number_above L e f h = significant_above L.reserved (field e 0 L.key) (field f 0 L.key) h

-- a page that is the same in two images that end alike has the same rules
pub rules_agree : (L : Layout) (one other : List ℕ) (p : Link) → file_end one ≡ file_end other → page one p.offset ≡ page other p.offset → page_rules L one p ≡ page_rules L other p
unfolding page_rules six_to_ten offset_fits
rules_agree L one other p ends e = rw (ends, e)
