-- A block is accepted exactly when each of its rules holds. Assumes nothing.
use Prim.Native.Nat.{ℕ}
use mathlib.Core.Path.{◌≡◌, refl, sym, ap, ◌∙◌, subst}
use mathlib.Core.Bool.{◌&&◌}
use mathlib.Core.Logic.{◌↔◌}
use mathlib.Core.List.{List}
use native.Mathlib.Omega.{arith}
use lib.Dec.{eqb}
use borrow.Author.Tests.{leb-true, eqb-true, le-leb, eq-eqb}
use Rattle.laws.proofs.Tests.{and_both, both_and}
use Rattle.le.specs.Bytes.{field}
use Rattle.refusal.specs.declared.Refusal.{Refusal}
use Rattle.refusal.specs.Order.{Verdict, after, AllHold, none, both, FirstFault}
use Rattle.refusal.proofs.OrderLaws.{goes, ends, accepted_exactly, refused_exactly}
use Rattle.keys.specs.Records.{cleared}
use Rattle.page.specs.Page.{signature}
use Rattle.tree.specs.declared.Listed.{Listed}
use Rattle.tree.specs.Answers.{block_of}
use Rattle.edition.specs.declared.Edition.{Edition}
use Rattle.edition.specs.declared.Trailer.{Trailer}
use Rattle.block.specs.Block.{trailer_of, place_fits, trailer_fits, sum_fits, trailer_rules, block_rules, block_fits, tested_by, checked_block}
use Rattle.block.specs.Sound.{BlockSound, ListedSound}
use Rattle.block.proofs.BlockLaws.{placed_of, unblock}
use Rattle.std.specs.Prelude.{Result, Ok, Err}
use Rattle.tree.specs.declared.Found.{Found}
use Rattle.tree.specs.declared.Found.TheVariants.{Absent, Entry}

sound_of : (t : Trailer) (image : List ℕ) (b : Listed) → AllHold (block_rules t image b) → BlockSound t image b
unfolding block_rules trailer_rules trailer_fits sum_fits
sound_of t image b (both p (both f (both s none))) =
    let placed = placed_of t image b p in
    let g = trailer_of t image b in
    let x = and_both (eqb (field g 0 2) b.size && eqb (cleared (field g t.number t.word)) (cleared b.block)) (eqb (field g 2 2) (signature b.offset b.block)) f in
    let y = and_both (eqb (field g 0 2) b.size) (eqb (cleared (field g t.number t.word)) (cleared b.block)) x.0 in
    record {
      size_low = leb-true _ _ placed.some;
      size_high = placed.few;
      step = eqb-true _ _ placed.step;
      least = leb-true _ _ placed.least;
      ends = placed.ends;
      size_same = eqb-true _ _ y.0;
      number_same = eqb-true _ _ y.1;
      signed = eqb-true _ _ x.1;
      summed = eqb-true _ _ s;
    }

of_sound : (t : Trailer) (image : List ℕ) (b : Listed) → BlockSound t image b → AllHold (block_rules t image b)
unfolding block_rules trailer_rules place_fits trailer_fits sum_fits
of_sound t image b h =
    both
    (both_and _ _
    (both_and _ _ (both_and _ _ (both_and _ _ (le-leb _ _ h.size_low) (le-leb _ _ h.size_high)) (eq-eqb _ _ h.step)) (le-leb _ _ h.least))
    (le-leb _ _ h.ends))
    (both (both_and _ _ (both_and _ _ (eq-eqb _ _ h.size_same) (eq-eqb _ _ h.number_same)) (eq-eqb _ _ h.signed))
    (both (eq-eqb _ _ h.summed) none))

-- a listed block passes 13 to 15 exactly when each of these rules holds
pub block_exactly : (t : Trailer) (image : List ℕ) (b : Listed) → (block_fits t image b ≡ Ok tt) ↔ BlockSound t image b
unfolding block_fits
block_exactly t image b = (
  (λ e. sound_of t image b ((accepted_exactly (block_rules t image b)).0 e)),
  (λ h. (accepted_exactly (block_rules t image b)).1 (of_sound t image b h)),
)

-- a refusal names the first fault: its test fails, and each test before it holds
pub block_first_fault : (t : Trailer) (image : List ℕ) (b : Listed) (r : Refusal) → (block_fits t image b ≡ Err r) ↔ FirstFault (block_rules t image b) r
unfolding block_fits
block_first_fault t image b r = refused_exactly (block_rules t image b) r

-- what was found passes its tests as the block b
found_by : (E : Edition) (image : List ℕ) (f : Result (Found Listed) Refusal) (b : Listed) (P : Type 0) → tested_by (block_fits E.trailer image) f ≡ Ok b
    → ((n : ℕ) → f ≡ Ok (Entry b n) → BlockSound E.trailer image b → P) → P
unfolding tested_by
found_by E image (Ok (Entry d n)) b P e go = by (block_fits E.trailer image d) refl e
  where
    by : (v : Verdict) → block_fits E.trailer image d ≡ v → after Err v (Ok d) ≡ Ok b → P
    by (Ok tt) q z =
        let same : d ≡ b = unblock d b (sym (goes Err (Ok tt) (Ok d) refl) ∙ z) in
        go n (ap (λ (x : Listed). Ok (Entry x n)) same) (subst (BlockSound E.trailer image) same ((block_exactly E.trailer image d).0 q))
    by (Err r) q z = let other = ends Err (Err r) (Ok d) r refl in let clash : ◌≡◌ {A = ℕ} 0 1 = cc in absurd (omega arith)
found_by E image (Ok (Absent n)) b P e go = let clash : ◌≡◌ {A = ℕ} 0 1 = cc in absurd (omega arith)
found_by E image (Err r) b P e go = let clash : ◌≡◌ {A = ℕ} 0 1 = cc in absurd (omega arith)

-- a number passes 12 to 15 exactly when the block tree lists it as a block whose rules hold
pub checked_exactly : (E : Edition) (image : List ℕ) (number : ℕ) (b : Listed) → (checked_block E image number ≡ Ok b) ↔ ListedSound E image number b
unfolding checked_block tested_by
checked_exactly E image number b = (
  (λ e. found_by E image (block_of E.blocks image number) b (ListedSound E image number b) e (λ n f s. record { pages = n; found = f; sound = s })),
  (λ h. ap (tested_by (block_fits E.trailer image)) h.found ∙ goes Err _ _ ((block_exactly E.trailer image b).1 h.sound)),
)
