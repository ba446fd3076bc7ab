-- What upper layers may know of blocks. Assumes nothing.
use Prim.Native.Nat.{ℕ, ◌+◌, ◌*◌, ◌%◌, ◌≤◌, ◌<◌}
use mathlib.Core.Path.{◌≡◌, refl, sym, ap, ◌∙◌}
use mathlib.Core.Bool.{Bool, true, false, ◌&&◌, cond}
use mathlib.Core.List.{List}
use native.Mathlib.Nat.{le_trans}
use native.Mathlib.Omega.{arith}
use lib.Dec.{leb, eqb}
use lib.ListN.{length}
use borrow.Author.Tests.{leb-true, lt-leb, le-leb}
use Rattle.laws.proofs.Tests.{and_both}
use Rattle.le.specs.Bytes.{part}
use Rattle.le.proofs.FieldLaws.{part_length}
use Rattle.coding.specs.Coding.{decoded}
use Rattle.coding.proofs.CodingLaws.{coded_length}
use Rattle.refusal.specs.declared.Refusal.{Refusal}
use Rattle.refusal.specs.declared.Fault.TheVariants.{BlockUnlisted, BlockOffset, ShortBuffer}
use Rattle.refusal.specs.Order.{Verdict, ◌at◌, ◌needing◌, in_order, AllHold, both}
use Rattle.refusal.proofs.OrderLaws.{test_goes, test_ends, goes, ends, accepted_exactly}
use Rattle.header.specs.Header.{file_end, method_of}
use Rattle.header.proofs.HeaderLaws.{end_inside}
use Rattle.tree.specs.declared.Listed.{Listed}
use Rattle.tree.specs.Answers.{block_of}
use Rattle.edition.specs.declared.Trailer.{Trailer}
use Rattle.edition.specs.declared.Edition.{Edition}
use Rattle.laws.specs.Front.{fronted}
use Rattle.block.specs.Block.{room_for, stored, trailer_of, place_fits, trailer_rules, block_rules, block_fits, tested_by, checked_block, size_in, internal, plain, block_bytes, fitting, read_in, read_of, filled_in, filled_of}
use Rattle.std.specs.Prelude.{Result, Ok, Err}
use Rattle.tree.specs.declared.Found.{Found}
use Rattle.tree.specs.declared.Found.TheVariants.{Absent, Entry}

-- the room holds the data and the trailer, and is the smallest multiple of 64 that does
pub room_holds : (t : Trailer) (size : ℕ) → size + t.length ≤ room_for t size
unfolding room_for
room_holds t size = omega arith

pub room_step : (t : Trailer) (size : ℕ) → room_for t size % 64 ≡ 0
unfolding room_for
room_step t size = omega arith

pub room_least : (t : Trailer) (size k : ℕ) → size + t.length ≤ k * 64 → room_for t size ≤ k * 64
unfolding room_for
room_least t size k h = omega arith

-- test 13, part by part
pub record Placed (t : Trailer) (image : List ℕ) (b : Listed) : Type 0 where
  pub some : leb 1 b.size ≡ true
  pub few : b.size ≤ t.most
  pub step : eqb (b.offset % 64) 0 ≡ true
  pub least : leb 17408 b.offset ≡ true
  pub ends : b.offset + room_for t b.size ≤ file_end image

pub placed_of : (t : Trailer) (image : List ℕ) (b : Listed) → place_fits t image b ≡ true → Placed t image b
unfolding place_fits
placed_of t image b e =
    let s = leb 1 b.size in
    let m = leb b.size t.most in
    let o = eqb (b.offset % 64) 0 in
    let l = leb 17408 b.offset in
    let x = and_both (s && m && o && l) _ e in
    let y = and_both (s && m && o) l x.0 in
    let z = and_both (s && m) o y.0 in
    let w = and_both s m z.0 in
    record { some = w.0; few = leb-true _ _ w.1; step = z.1; least = y.1; ends = leb-true _ _ x.1 }

-- a block whose room is inside the file lies, with its trailer, in the image
pub room_inside : (t : Trailer) (image : List ℕ) (b : Listed) → place_fits t image b ≡ true → b.offset + room_for t b.size ≤ length image
room_inside t image b e = le_trans (placed_of t image b e).ends (end_inside image)

-- a block over the most is refused without its room
pub too_large : (t : Trailer) (image : List ℕ) (b : Listed) → t.most < b.size → false ≡ place_fits t image b
unfolding place_fits
too_large t image b h = rw (lt-leb b.size t.most h) (sym (and_false (leb 1 b.size) _ _ _))
  where
    and_false : (a c d e : Bool) → ((a && false) && c && d && e) ≡ false
    and_false true c d e = refl
    and_false false c d e = refl

-- the tests of a listed block: 13, then those of its bytes
pub block_ends : (t : Trailer) (image : List ℕ) (b : Listed) → place_fits t image b ≡ false → Err (BlockOffset at b.offset) ≡ block_fits t image b
unfolding block_fits block_rules in_order
block_ends t image b e = sym (test_ends Err _ _ (in_order (trailer_rules t b (trailer_of t image b) (stored t image b))) e)

pub block_goes : (t : Trailer) (image : List ℕ) (b : Listed) → place_fits t image b ≡ true
    → in_order (trailer_rules t b (trailer_of t image b) (stored t image b)) ≡ block_fits t image b
unfolding block_fits block_rules in_order
block_goes t image b e = sym (test_goes Err _ _ _ e)

-- an accepted block lies in the image, and is no larger than the most
pub accepted_placed : (t : Trailer) (image : List ℕ) (b : Listed) → block_fits t image b ≡ Ok tt → place_fits t image b ≡ true
unfolding block_fits block_rules
accepted_placed t image b e = first ((accepted_exactly (block_rules t image b)).0 e)
  where
    first : AllHold (block_rules t image b) → place_fits t image b ≡ true
    first (both p h) = p

pub block_inside : (t : Trailer) (image : List ℕ) (b : Listed) → block_fits t image b ≡ Ok tt → b.offset + b.size ≤ length image
block_inside t image b e = omega (arith, room_inside t image b (accepted_placed t image b e), room_holds t b.size)

-- what was found, and then tested
module _ (t : Trailer) (image : List ℕ) (f : Result (Found Listed) Refusal) where
  abbrev tested : Result Listed Refusal
  tested = tested_by (block_fits t image) f

  pub tested_accepted : (b : Listed) (n : ℕ) (v : Verdict) → f ≡ Ok (Entry b n) → v ≡ block_fits t image b → v ≡ Ok tt → Ok b ≡ tested
  unfolding tested_by
  tested_accepted b n v g e q = sym (ap (tested_by (block_fits t image)) g ∙ goes Err _ _ (sym e ∙ q))

  pub tested_refused : (b : Listed) (n : ℕ) (v : Verdict) (r : Refusal) → f ≡ Ok (Entry b n) → v ≡ block_fits t image b → v ≡ Err r → Err r ≡ tested
  unfolding tested_by
  tested_refused b n v r g e q = sym (ap (tested_by (block_fits t image)) g ∙ ends Err _ _ r (sym e ∙ q))

  pub unlisted : (n : ℕ) → f ≡ Ok (Absent n) → Err (BlockUnlisted at 0) ≡ tested
  unfolding tested_by
  unlisted n g = sym (ap (tested_by (block_fits t image)) g)

  -- what is found is no entry
  pub no_entry : (g : Found Listed) → f ≡ Ok g → ((b : Listed) (n : ℕ) → g ≡ Entry b n → ⊥) → Err (BlockUnlisted at 0) ≡ tested
  no_entry (Entry b n) e k = absurd (k b n refl)
  no_entry (Absent n) e k = unlisted n e

  pub lookup_refused : (r : Refusal) → f ≡ Err r → Err r ≡ tested
  unfolding tested_by
  lookup_refused r g = sym (ap (tested_by (block_fits t image)) g)

pub unblock : (d b : Listed) → ◌≡◌ {A = Result Listed Refusal} (Ok d) (Ok b) → d ≡ b
unblock d b p = cc

-- what a checked block tells
checked_by : (E : Edition) (image : List ℕ) (f : Result (Found Listed) Refusal) (b : Listed) → tested_by (block_fits E.trailer image) f ≡ Ok b → block_fits E.trailer image b ≡ Ok tt
unfolding tested_by
checked_by E image (Ok (Entry d n)) b e = by (block_fits E.trailer image d) refl
  where
    by : (v : Verdict) → block_fits E.trailer image d ≡ v → block_fits E.trailer image b ≡ Ok tt
    by (Ok tt) q = let same : d ≡ b = unblock d b (sym (goes Err _ _ q) ∙ e) in sym (ap (block_fits E.trailer image) same) ∙ q
    by (Err r) q = let other = ends Err _ (Ok d) r q in cc
checked_by E image (Ok (Absent n)) b e = cc
checked_by E image (Err r) b e = cc

pub checked_fits : (E : Edition) (image : List ℕ) (number : ℕ) (b : Listed) → checked_block E image number ≡ Ok b → block_fits E.trailer image b ≡ Ok tt
unfolding checked_block
checked_fits E image number b e = checked_by E image (block_of E.blocks image number) b e

-- a checked block is the one that the lookup finds
same_by : (E : Edition) (image : List ℕ) (f : Result (Found Listed) Refusal) (b d : Listed) (n : ℕ) → tested_by (block_fits E.trailer image) f ≡ Ok b → f ≡ Ok (Entry d n) → d ≡ b
unfolding tested_by
same_by E image f b d n e g = by (block_fits E.trailer image d) refl
  where
    by : (v : Verdict) → block_fits E.trailer image d ≡ v → d ≡ b
    by (Ok tt) q = unblock d b (sym (ap (tested_by (block_fits E.trailer image)) g ∙ goes Err _ _ q) ∙ e)
    by (Err r) q = let other = ap (tested_by (block_fits E.trailer image)) g ∙ ends Err _ (Ok d) r q in cc

pub checked_same : (E : Edition) (image : List ℕ) (number : ℕ) (b d : Listed) (n : ℕ) → checked_block E image number ≡ Ok b → block_of E.blocks image number ≡ Ok (Entry d n) → d ≡ b
unfolding checked_block
checked_same E image number b d n e g = same_by E image (block_of E.blocks image number) b d n e g

pub checked_not_absent : (E : Edition) (image : List ℕ) (number : ℕ) (b : Listed) (n : ℕ) → checked_block E image number ≡ Ok b → block_of E.blocks image number ≡ Ok (Absent n) → ⊥
unfolding checked_block
checked_not_absent E image number b n e g =
    let other = unlisted E.trailer image (block_of E.blocks image number) n g in let clash : ◌≡◌ {A = ℕ} 0 1 = cc in omega arith

pub checked_not_refused : (E : Edition) (image : List ℕ) (number : ℕ) (b : Listed) (r : Refusal) → checked_block E image number ≡ Ok b → block_of E.blocks image number ≡ Err r → ⊥
unfolding checked_block
checked_not_refused E image number b r e g =
    let other = lookup_refused E.trailer image (block_of E.blocks image number) r g in let clash : ◌≡◌ {A = ℕ} 0 1 = cc in omega arith

pub checked_inside : (E : Edition) (image : List ℕ) (number : ℕ) (b : Listed) → checked_block E image number ≡ Ok b → b.offset + b.size ≤ length image
checked_inside E image number b e = block_inside E.trailer image b (checked_fits E image number b e)

-- decoding keeps the length
pub plain_length : (method number : ℕ) (s : List ℕ) → length (plain method number s) ≡ length s
unfolding plain
plain_length method number s = by (internal number)
  where
    by : (i : Bool) → length (cond i s (decoded method number s)) ≡ length s
    by true = refl
    by false = coded_length _ method number s

pub bytes_length : (image : List ℕ) (b : Listed) → b.offset + b.size ≤ length image → length (block_bytes image b) ≡ b.size
unfolding block_bytes
bytes_length image b h = plain_length (method_of image) b.block (part image b.offset b.size) ∙ part_length image b.offset b.size h

-- 17
pub fits_space : (size space : ℕ) → size ≤ space → Ok size ≡ fitting size space
unfolding fitting
fits_space size space h = rw (le-leb size space h)

pub short_space : (size space : ℕ) → space < size → Err (ShortBuffer needing size) ≡ fitting size space
unfolding fitting
short_space size space h = rw (lt-leb size space h)

pub checked_large : (E : Edition) (image : List ℕ) (number : ℕ) (b : Listed) → checked_block E image number ≡ Ok b → 564 ≤ length image
checked_large E image number b e =
    let ok = accepted_placed E.trailer image b (checked_fits E image number b e) in
    omega (arith, leb-true 17408 b.offset (placed_of E.trailer image b ok).least, room_inside E.trailer image b ok)

-- the outcome of a read: refused by the tests, refused for the buffer, or done
module _ (E : Edition) (image : List ℕ) (number : ℕ) (out : List ℕ) where
  pub read_ends : (r : Refusal) → checked_block E image number ≡ Err r
      → (Err r ≡ read_of E image number (length out)) × (out ≡ filled_of E image number out)
  unfolding read_of read_in filled_of filled_in
  read_ends r e = (rw e, rw e)

  pub read_short : (b : Listed) → checked_block E image number ≡ Ok b → length out < b.size
      → (Err (ShortBuffer needing b.size) ≡ read_of E image number (length out)) × (out ≡ filled_of E image number out)
  unfolding read_of read_in filled_of filled_in
  read_short b e h = (rw e (short_space b.size (length out) h), rw (e, lt-leb b.size (length out) h))

  pub read_fills : (b : Listed) → checked_block E image number ≡ Ok b → b.size ≤ length out
      → (Ok b.size ≡ read_of E image number (length out)) × (fronted (block_bytes image b) out ≡ filled_of E image number out)
  unfolding read_of read_in filled_of filled_in
  read_fills b e h = (rw e (fits_space b.size (length out) h), rw (e, le-leb b.size (length out) h))

pub size_of_refused : (c : Result Listed Refusal) (r : Refusal) → c ≡ Err r → size_in c ≡ Err r
unfolding size_in
size_of_refused c r e = rw e

pub checked_size : (E : Edition) (image : List ℕ) (number : ℕ) (b : Listed) → checked_block E image number ≡ Ok b → b.size ≤ E.trailer.most
checked_size E image number b e = (placed_of E.trailer image b (accepted_placed E.trailer image b (checked_fits E image number b e))).few
