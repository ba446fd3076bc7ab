-- A page is accepted exactly when each of its rules holds. Assumes nothing.
use Prim.Native.Nat.{ℕ, ◌+◌, ◌%◌, ◌≤◌}
use mathlib.Core.Path.{◌≡◌, refl}
use mathlib.Core.Bool.{Bool, true, false, ◌&&◌, ◌||◌}
use mathlib.Core.Logic.{◌↔◌, ◌⊎◌, inl, inr}
use mathlib.Core.List.{List, ◌++◌}
use native.Mathlib.Omega.{arith}
use lib.Dec.{leb, eqb}
use borrow.Author.Tests.{leb-true, eqb-true, le-leb, eq-eqb}
use Rattle.laws.proofs.Tests.{and_both, both_and, or_right}
use Rattle.le.specs.Bytes.{field, byte}
use Rattle.refusal.specs.declared.Refusal.{Refusal}
use Rattle.refusal.specs.Order.{AllHold, both, FirstFault}
use Rattle.refusal.proofs.OrderLaws.{accepted_exactly, refused_exactly}
use Rattle.keys.proofs.Climbs.{ordered_exactly}
use Rattle.header.specs.Header.{file_end}
use Rattle.edition.specs.declared.Layout.{Layout}
use Rattle.page.specs.declared.Level.{Level}
use Rattle.page.specs.declared.Level.TheVariants.{AtRoot, Exactly}
use Rattle.page.specs.declared.Link.{Link}
use Rattle.page.specs.Page.{signature, page, offset_fits, kind_fits, number_fits, checksum_fits, level_fits, may_be_empty, counts_fit, bytes_rules, six_to_ten, keys_in, key_rules, page_rules, page_fits}
use Rattle.page.specs.Sound.{Wanted, MayBeEmpty, BytesSound, PageSound}
use Rattle.page.proofs.KeyLaws.{climbing_of, of_climbing}
use Rattle.page.proofs.PageLaws.{counts_of}
use Rattle.std.specs.Prelude.{Ok, Err}

wanted_of : (w : Level) (l : ℕ) → level_fits w l ≡ true → Wanted w l
unfolding level_fits
wanted_of AtRoot l e = leb-true l 7 e
wanted_of (Exactly m) l e = eqb-true l m e

of_wanted : (w : Level) (l : ℕ) → Wanted w l → level_fits w l ≡ true
unfolding level_fits
of_wanted AtRoot l h = le-leb l 7 h
of_wanted (Exactly m) l h = eq-eqb l m h

some_of : (w : Level) (n l : ℕ) → (leb 1 n || may_be_empty w l) ≡ true → (1 ≤ n) ⊎ MayBeEmpty w l
unfolding may_be_empty
some_of w n l e = by (leb 1 n) refl e
  where
    empty : (v : Level) → may_be_empty v l ≡ true → MayBeEmpty v l
    empty AtRoot h = eqb-true l 0 h
    empty (Exactly m) h = let clash : ◌≡◌ {A = ℕ} 0 1 = cc in omega arith

    by : (b : Bool) → leb 1 n ≡ b → (b || may_be_empty w l) ≡ true → (1 ≤ n) ⊎ MayBeEmpty w l
    by true t h = inl (leb-true 1 n t)
    by false t h = inr (empty w h)

of_some : (w : Level) (n l : ℕ) → (1 ≤ n) ⊎ MayBeEmpty w l → (leb 1 n || may_be_empty w l) ≡ true
unfolding may_be_empty
of_some w n l (inl h) = rw (le-leb 1 n h)
of_some AtRoot n l (inr h) = or_right (leb 1 n) _ (eq-eqb l 0 h)
of_some (Exactly m) n l (inr h) = absurd h

three : (a b c : Bool) → (a && b && c) ≡ true → (a ≡ true) × (b ≡ true) × (c ≡ true)
three a b c e = let x = and_both (a && b) c e in let y = and_both a b x.0 in (y.0, y.1, x.1)

-- test 10, part by part
of_counts : (L : Layout) (p : Link) (g : List ℕ) → BytesSound L p g → counts_fit L p g ≡ true
unfolding counts_fit
of_counts L p g h =
    both_and _ _
    (both_and _ _ (both_and _ _ (both_and _ _ (of_wanted p.level _ h.level) (eq-eqb _ _ h.size)) (le-leb _ _ h.room)) (le-leb _ _ h.count))
    (of_some p.level _ _ h.some)

bytes_of : (L : Layout) (p : Link) (g : List ℕ) → AllHold (bytes_rules L p g ++ key_rules p (keys_in L g)) → BytesSound L p g
unfolding bytes_rules kind_fits number_fits checksum_fits keys_in
bytes_of L p g (both k (both n (both s (both c o)))) =
    let kinds = and_both (eqb (byte g L.trailer) L.kind) (eqb (byte g (L.trailer + 1)) L.kind) k in
    let numbers = and_both (eqb (field g L.number L.word) p.number) (eqb (field g (L.trailer + 2) 2) (signature p.offset p.number)) n in
    let counts = counts_of L p g c in
    let keys = (ordered_exactly p.range (keys_in L g)).0 (climbing_of p _ o) in
    record {
      kind = (eqb-true _ _ kinds.0, eqb-true _ _ kinds.1);
      number = eqb-true _ _ numbers.0;
      signed = eqb-true _ _ numbers.1;
      summed = eqb-true _ _ s;
      level = wanted_of p.level _ counts.level;
      size = counts.size;
      room = counts.room;
      count = counts.count;
      some = some_of p.level _ _ counts.some;
      ascending = keys.0;
      inside = keys.1;
    }

of_bytes : (L : Layout) (p : Link) (g : List ℕ) → BytesSound L p g → AllHold (bytes_rules L p g ++ key_rules p (keys_in L g))
unfolding bytes_rules kind_fits number_fits checksum_fits keys_in
of_bytes L p g h =
    both (both_and _ _ (eq-eqb _ _ h.kind.0) (eq-eqb _ _ h.kind.1))
    (both (both_and _ _ (eq-eqb _ _ h.number) (eq-eqb _ _ h.signed))
    (both (eq-eqb _ _ h.summed)
    (both (of_counts L p g h)
    (of_climbing p _ ((ordered_exactly p.range (keys_in L g)).1 (h.ascending, h.inside))))))

sound_of : (L : Layout) (image : List ℕ) (p : Link) → AllHold (page_rules L image p) → PageSound L image p
unfolding page_rules six_to_ten offset_fits
sound_of L image p (both o h) =
    let parts = three (eqb (p.offset % 64) 0) (leb 17408 p.offset) (leb (p.offset + 512) (file_end image)) o in
    record {
      step = eqb-true _ _ parts.0;
      least = leb-true _ _ parts.1;
      ends = leb-true _ _ parts.2;
      bytes = bytes_of L p (page image p.offset) h;
    }

of_sound : (L : Layout) (image : List ℕ) (p : Link) → PageSound L image p → AllHold (page_rules L image p)
unfolding page_rules six_to_ten offset_fits
of_sound L image p h =
    both (both_and _ _ (both_and _ _ (eq-eqb _ _ h.step) (le-leb _ _ h.least)) (le-leb _ _ h.ends))
    (of_bytes L p (page image p.offset) h.bytes)

-- the rules of a page all hold exactly when it is sound; it is accepted exactly then
pub rules_exactly : (L : Layout) (image : List ℕ) (p : Link) → AllHold (page_rules L image p) ↔ PageSound L image p
rules_exactly L image p = (sound_of L image p, of_sound L image p)

pub page_exactly : (L : Layout) (image : List ℕ) (p : Link) → (page_fits L image p ≡ Ok tt) ↔ PageSound L image p
unfolding page_fits
page_exactly L image p = (
  (λ e. sound_of L image p ((accepted_exactly (page_rules L image p)).0 e)),
  (λ h. (accepted_exactly (page_rules L image p)).1 (of_sound L image p h)),
)

-- a refusal names the first fault: its test fails, and each test before it holds
pub page_first_fault : (L : Layout) (image : List ℕ) (p : Link) (r : Refusal) → (page_fits L image p ≡ Err r) ↔ FirstFault (page_rules L image p) r
unfolding page_fits
page_first_fault L image p r = refused_exactly (page_rules L image p) r
