-- A block is tested and read alike in images that are alike to the file's end. Assumes nothing.
use Prim.Native.Nat.{ℕ, ◌+◌, ◌-◌, ◌≤◌, ◌<◌}
use mathlib.Core.Path.{◌≡◌, refl, sym, ap, ap₂, ◌∙◌}
use mathlib.Core.Bool.{Bool, true, false, cond}
use mathlib.Core.List.{List}
use native.Mathlib.Omega.{arith}
use lib.Dec.{leb}
use lib.ListN.{length}
use Rattle.laws.specs.Front.{fronted}
use Rattle.le.specs.Bytes.{part}
use Rattle.refusal.specs.declared.Fault.TheVariants.{BlockOffset}
use Rattle.refusal.specs.declared.Refusal.{Refusal}
use Rattle.refusal.specs.Order.{Verdict, ◌at◌, in_order, after, FirstFault}
use Rattle.refusal.proofs.OrderLaws.{fault_left}
use Rattle.keys.specs.declared.Sought.TheVariants.{Equal}
use Rattle.header.specs.Header.{header_rules, file_end}
use Rattle.header.specs.End.{AlikeToEnd}
use Rattle.header.proofs.EndLaws.{part_alike, method_alike}
use Rattle.tree.specs.declared.Listed.{Listed}
use Rattle.tree.specs.Lookup.{search_rules}
use Rattle.tree.specs.Answers.{block_of}
use Rattle.tree.proofs.EndLaws.{block_alike, search_first}
use Rattle.edition.specs.declared.Trailer.{Trailer}
use Rattle.edition.specs.declared.Edition.{Edition}
use Rattle.edition.specs.Fair.{FairEdition}
use Rattle.block.specs.Block.{room_for, stored, trailer_of, place_fits, trailer_rules, block_fits, tested_by, checked_block, size_in, test_of, plain, block_bytes, read_in, read_of, filled_in, filled_of}
use Rattle.block.specs.Tried.{test_rules, read_rules}
use Rattle.block.proofs.BlockLaws.{room_holds, placed_of, block_ends, block_goes, accepted_placed, checked_fits}
use Rattle.std.specs.Prelude.{Result, Ok, Err}
use Rattle.tree.specs.declared.Found.{Found}
use Rattle.tree.specs.declared.Found.TheVariants.{Absent, Entry}

module _ (one other : List ℕ) (alike : AlikeToEnd one other) where
  module _ (t : Trailer) (b : Listed) where
    place_alike : place_fits t one b ≡ place_fits t other b
    unfolding place_fits
    place_alike = rw alike.end

    module _ (inside : b.offset + room_for t b.size ≤ file_end one) where
      stored_alike : stored t one b ≡ stored t other b
      unfolding stored
      stored_alike = part_alike one other alike b.offset b.size (omega (arith, room_holds t b.size))

      trailer_alike : trailer_of t one b ≡ trailer_of t other b
      unfolding trailer_of
      trailer_alike = part_alike one other alike (b.offset + (room_for t b.size - t.length)) t.length (omega (arith, room_holds t b.size))

    pub test_alike : block_fits t one b ≡ block_fits t other b
    test_alike = by (place_fits t one b) refl
      where
        by : (x : Bool) → place_fits t one b ≡ x → block_fits t one b ≡ block_fits t other b
        by true e =
            let inside = (placed_of t one b e).ends in
            sym (block_goes t one b e)
            ∙ ap₂ (λ (bytes body : List ℕ). in_order (trailer_rules t b bytes body)) (trailer_alike inside) (stored_alike inside)
            ∙ block_goes t other b (sym place_alike ∙ e)
        by false e = sym (block_ends t one b e) ∙ block_ends t other b (sym place_alike ∙ e)

    -- a block that is accepted has the same bytes
    pub part_of_block : block_fits t one b ≡ Ok tt → part one b.offset b.size ≡ part other b.offset b.size
    part_of_block e =
        part_alike one other alike b.offset b.size (omega (arith, (placed_of t one b (accepted_placed t one b e)).ends, room_holds t b.size))

module _ (E : Edition) (fair : FairEdition E) (one other : List ℕ) (alike : AlikeToEnd one other) where
  tested_alike : (f : Result (Found Listed) Refusal) → tested_by (block_fits E.trailer one) f ≡ tested_by (block_fits E.trailer other) f
  unfolding tested_by
  tested_alike (Ok (Entry b n)) = ap (λ (v : Verdict). after Err v (Ok b)) (test_alike one other alike E.trailer b)
  tested_alike (Ok (Absent n)) = refl
  tested_alike (Err r) = refl

  pub checked_alike : (number : ℕ) → checked_block E one number ≡ checked_block E other number
  unfolding checked_block
  checked_alike number = tested_alike (block_of E.blocks one number) ∙ ap (tested_by (block_fits E.trailer other)) (block_alike E.blocks fair.blocks one other alike number)

  pub stored_same : (number : ℕ) (b : Listed) → checked_block E one number ≡ Ok b → part one b.offset b.size ≡ part other b.offset b.size
  stored_same number b e = part_of_block one other alike E.trailer b (checked_fits E one number b e)

  pub bytes_same : (number : ℕ) (b : Listed) → checked_block E one number ≡ Ok b → block_bytes one b ≡ block_bytes other b
  unfolding block_bytes
  bytes_same number b e = ap₂ (λ (method : ℕ) (s : List ℕ). plain method b.block s) (method_alike one other alike) (stored_same number b e)

  -- the calls
  pub sized_alike : (number : ℕ) → test_of E one number ≡ test_of E other number
  unfolding test_of
  sized_alike number = ap size_in (checked_alike number)

  pub read_alike : (number space : ℕ) → read_of E one number space ≡ read_of E other number space
  unfolding read_of
  read_alike number space = ap (λ (c : Result Listed Refusal). read_in c space) (checked_alike number)

  pub filled_alike : (number : ℕ) (out : List ℕ) → filled_of E one number out ≡ filled_of E other number out
  unfolding filled_of filled_in
  filled_alike number out = by (checked_block E one number) refl ∙ ap (λ (c : Result Listed Refusal). filled_in other c out) (checked_alike number)
    where
      by : (c : Result Listed Refusal) → checked_block E one number ≡ c → filled_in one c out ≡ filled_in other c out
      by (Ok b) e = ap (λ (s : List ℕ). cond (leb b.size (length out)) (fronted s out) out) (bytes_same number b e)
      by (Err r) e = refl

-- what the header is refused with, a test and a read of a block are refused with
module _ (E : Edition) (image : List ℕ) (r : Refusal) (first : FirstFault (header_rules image) r) (number : ℕ) where
  pub test_first : FirstFault (test_rules E image number) r
  unfolding test_rules
  test_first = fault_left (search_rules Equal E.blocks image number) _ r (search_first E.blocks image r first Equal number)

  pub read_first : (space : ℕ) → FirstFault (read_rules E image number space) r
  unfolding read_rules
  read_first space = fault_left (test_rules E image number) _ r test_first

-- a block whose room passes the file's end is refused with 13, whatever its bytes
pub block_behind : (t : Trailer) (image : List ℕ) (b : Listed) → file_end image < b.offset + room_for t b.size → block_fits t image b ≡ Err (BlockOffset at b.offset)
block_behind t image b h = by (place_fits t image b) refl
  where
    by : (x : Bool) → place_fits t image b ≡ x → block_fits t image b ≡ Err (BlockOffset at b.offset)
    by true e = absurd (omega (arith, (placed_of t image b e).ends))
    by false e = sym (block_ends t image b e)
