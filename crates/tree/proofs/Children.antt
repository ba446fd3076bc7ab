-- The children of a page, read from its entries one at a time. Assumes nothing.
use Prim.Native.Nat.{ℕ, ◌+◌, ◌*◌, ◌≤◌, ◌<◌}
use mathlib.Core.Path.{◌≡◌, refl, sym, ap, ◌∙◌}
use mathlib.Core.Bool.{Bool, true, false}
use mathlib.Core.List.{List, ◌∷◌, map}
use native.Mathlib.Omega.{arith}
use lib.Dec.{leb}
use lib.ListN.{length, drop}
use borrow.Author.Tests.{leb-true, leb-false}
use Rattle.le.specs.Bytes.{part, field}
use Rattle.keys.specs.declared.Range.{Range}
use Rattle.keys.specs.declared.Shape.{Shape}
use Rattle.keys.specs.declared.Sought.{Sought}
use Rattle.keys.specs.declared.Sought.TheVariants.{AtLeast}
use Rattle.keys.specs.Records.{key_of, keys_of, records, record_at, RecordsIn, records_from}
use Rattle.keys.specs.Range.{range_at}
use Rattle.keys.specs.Search.{last_at_most, first_that, scanned, start}
use Rattle.keys.proofs.RecordLaws.{records_length, record_inside, record_is, field_at}
use Rattle.keys.proofs.RangeLaws.{end_same}
use Rattle.keys.proofs.FoundLaws.{found_inside, chosen_inside}
use Rattle.keys.proofs.SeatLaws.{start_below}
use Rattle.search.specs.SearchTree.{offspring, children}
use Rattle.search.specs.Descent.{from_seat, picked}
use Rattle.search.specs.Records.{child_at, children_from}
use Rattle.search.proofs.Records.{entry_none, entry_some, children_all, children_at, children_none, children_drop, seat_is, chosen_none, chosen_some}
use Rattle.edition.specs.declared.Layout.{Layout}
use Rattle.page.specs.declared.Level.TheVariants.{Exactly}
use Rattle.page.specs.declared.Link.{Link}
use Rattle.page.specs.Layout.{shape}
use Rattle.edition.specs.Fair.{FairLayout}
use Rattle.page.specs.Page.{page, count_of, level_of, entries, key_in, counts_fit}
use Rattle.page.proofs.PageLaws.{entries_are, keys_of_entries, entry_keyed, shape_size, shape_width, shape_reserved, leaf_size, entries_held, words_inside, few}
use Rattle.tree.specs.Tree.{link_of, page_tree}
use Rattle.tree.specs.Answers.{kids_from, chosen_of, next_of}
use Rattle.std.specs.Prelude.{Option, Some, None}

-- the child of the i-th entry, by the numbers read
pub link_is : (L : Layout) (s : Shape) (n : ℕ) (g : List ℕ) (to : Option ℕ) (i level number offset : ℕ) (range : Range) → L.word * 3 ≤ s.size → s.width ≡ L.key → s.reserved ≡ L.reserved
    → number ≡ field g (i * s.size + L.word) L.word → offset ≡ field g (i * s.size + L.word + L.word) L.word → range ≡ range_at s n g i to
    → ◌≡◌ {A = Link} (record { number = number; offset = offset; level = Exactly level; range = range }) (child_at (key_in L) (link_of L level) to s n g i)
unfolding link_of
link_is L s n g to i level number offset range h w r en eo er =
    let p : i * s.size + L.word + L.word ≡ i * s.size + (L.word + L.word) = omega arith in
    rw (en, eo, er, p, end_same (key_of s) (key_in L) (entry_keyed L s w r) to (records_from s n g (i + 1)), field_at s g i L.word L.word (omega arith), field_at s g i (L.word + L.word) L.word (omega arith))

-- what reading the child of the i-th entry asks, of a page whose counts fit
pub link_ready : (L : Layout) (p : Link) (g : List ℕ) → FairLayout L → length g ≡ 512 → counts_fit L p g ≡ true
    → (s : Shape) (n i : ℕ) → s ≡ shape L (level_of L g) → n ≡ count_of L g → i < n
    → RecordsIn s n g × (s.width ≡ L.key) × (s.reserved ≡ L.reserved) × (L.word * 3 ≤ s.size) × (L.word ≤ 8) × (i < n) × (n ≤ 255)
link_ready L p g fair h ok s n i es en l =
    let w = words_inside L p g fair ok in
    let f = few L p g fair ok in (
      rw (es, en) (entries_held L p g fair ok h),
      ap (λ (x : Shape). x.width) es ∙ shape_width L (level_of L g),
      ap (λ (x : Shape). x.reserved) es ∙ shape_reserved L (level_of L g),
      rw (es, shape_size L (level_of L g)) w,
      fair.word,
      l,
      rw en f,
    )

pub ranged : (L : Layout) (l : ℕ) (r : Range) (e : List ℕ) → (link_of L l r e).range ≡ r
unfolding link_of
ranged L l r e = refl

-- the entries of a page g, and its children of level l
module _ (L : Layout) (g : List ℕ) where
  abbrev own : Shape
  own = shape L (level_of L g)

  keyed : (e : List ℕ) → key_of own e ≡ key_in L e
  keyed e = entry_keyed L own (shape_width L (level_of L g)) (shape_reserved L (level_of L g)) e

  pub entries_length : length (entries L g) ≡ count_of L g
  entries_length = ap length (entries_are L g) ∙ records_length own (count_of L g) g

  module _ (l : ℕ) (to : Option ℕ) where
    abbrev from : ℕ → List Link
    from i = children_from (key_in L) (link_of L l) to own (count_of L g) g i

    abbrev at : ℕ → Link
    at i = child_at (key_in L) (link_of L l) to own (count_of L g) g i

    from_at : (i : ℕ) → i < count_of L g → from i ≡ at i ∷ from (i + 1)
    from_at i h = children_at (key_in L) own keyed (count_of L g) g to (link_of L l) i h

    pub next_none : (i : ℕ) → count_of L g ≤ i → None ≡ next_of (from i)
    unfolding next_of
    next_none i h = rw (children_none (key_in L) own keyed (count_of L g) g to (link_of L l) i h)

    pub next_some : (i : ℕ) → i < count_of L g → Some (at i) ≡ next_of (from i)
    unfolding next_of
    next_some i h = rw (from_at i h)

    -- the children from the i-th on: one and the rest
    pub more_from : (i : ℕ) (c : Link) → next_of (from i) ≡ Some c → (i < count_of L g) × (from i ≡ c ∷ from (i + 1))
    unfolding next_of
    more_from i c e = by (leb (count_of L g) i) refl
      where
        by : (b : Bool) → leb (count_of L g) i ≡ b → (i < count_of L g) × (from i ≡ c ∷ from (i + 1))
        by true t = let w = next_none i (leb-true _ _ t) in let clash : ◌≡◌ {A = ℕ} 0 1 = cc in absurd (omega arith)
        by false t =
            let same : at i ≡ c = let w = next_some i (leb-false _ _ t) in cc in
            (leb-false _ _ t, from_at i (leb-false _ _ t) ∙ ap (λ (z : Link). z ∷ from (i + 1)) same)

    -- the chosen child
    module _ (k : ℕ) where
      pub choose_none : last_at_most k (keys_of own (count_of L g) g) ≡ None → None ≡ next_of (chosen_of L l to k g)
      unfolding chosen_of next_of
      choose_none e = rw (entries_are L g) (sym (ap next_of (chosen_none (key_in L) own keyed (count_of L g) g to (link_of L l) (λ (c : Link). c.range) (ranged L l) k (sym e))))

      pub choose_some : (i : ℕ) → last_at_most k (keys_of own (count_of L g) g) ≡ Some i → Some (at i) ≡ next_of (chosen_of L l to k g)
      unfolding chosen_of next_of
      choose_some i e = rw (entries_are L g) (sym (ap next_of (chosen_some (key_in L) own keyed (count_of L g) g to (link_of L l) (λ (c : Link). c.range) (ranged L l) k i (sym e))))

      pub choose_inside : (i : ℕ) → last_at_most k (keys_of own (count_of L g) g) ≡ Some i → i < count_of L g
      choose_inside i e = chosen_inside own (count_of L g) g k i (sym e)

  -- the entry that is sought
  module _ (s : Sought) (k : ℕ) where
    pub seen_none : first_that s k (keys_of own (count_of L g) g) ≡ None → scanned s (key_in L) k (entries L g) ≡ None
    seen_none e = ap (scanned s (key_in L) k) (entries_are L g) ∙ entry_none (key_in L) own keyed (count_of L g) g s k (sym e)

    pub seen_inside : (i : ℕ) → first_that s k (keys_of own (count_of L g) g) ≡ Some i → i < count_of L g
    seen_inside i e = found_inside own (count_of L g) g s k i (sym e)

    pub seen_some : (i : ℕ) → first_that s k (keys_of own (count_of L g) g) ≡ Some i → scanned s (key_in L) k (entries L g) ≡ Some (record_at own g i)
    seen_some i e = ap (scanned s (key_in L) k) (entries_are L g) ∙ entry_some (key_in L) own keyed (count_of L g) g s k i (sym e)

  -- where a listing starts
  module _ (k : ℕ) where
    pub start_is : (i : ℕ) → i ≡ start (last_at_most k (keys_of own (count_of L g) g)) → i ≡ start (last_at_most k (map (key_in L) (entries L g)))
    start_is i e = e ∙ ap (λ (ks : List ℕ). start (last_at_most k ks)) (keys_of_entries L g)

    pub start_inside : start (last_at_most k (map (key_in L) (entries L g))) ≤ count_of L g
    start_inside = rw entries_length at (start_below (key_in L) k (entries L g))

-- the children of a page of an image
module _ (L : Layout) (image : List ℕ) (l : ℕ) (p : Link) where
  abbrev g : List ℕ
  g = page image p.offset

  pub more : (i : ℕ) (c : Link) → next_of (kids_from L image l p i) ≡ Some c → (i < count_of L g) × (kids_from L image l p i ≡ c ∷ kids_from L image l p (i + 1))
  unfolding kids_from
  more i c e = more_from L g l p.range.to i c e

  pub no_more : (i : ℕ) → count_of L g ≤ i → next_of (kids_from L image l p i) ≡ None
  unfolding kids_from
  no_more i h = sym (next_none L g l p.range.to i h)

  pub all_kids : kids_from L image l p 0 ≡ children (page_tree L image) l p
  unfolding kids_from children
  all_kids = rw (entries_are L g) (children_all (key_in L) (shape L (level_of L g)) (keyed L g) (count_of L g) g p.range.to (link_of L l))

  pub chosen_is : (k : ℕ) → chosen_of L l p.range.to k g ≡ picked (page_tree L image) Sought.Equal k (children (page_tree L image) l p)
  unfolding chosen_of children
  chosen_is k = refl

  -- those from the start of a listing on
  pub starting_from : (k i : ℕ) → i ≡ start (last_at_most k (map (key_in L) (entries L g)))
      → kids_from L image l p i ≡ picked (page_tree L image) AtLeast k (children (page_tree L image) l p)
  unfolding from_seat kids_from children
  starting_from k i e =
      let inside = start_inside L g k in
      let kids = offspring (key_in L) (link_of L l) p.range.to (records (shape L (level_of L g)) (count_of L g) g) in
      rw (entries_are L g)
      (sym (children_drop (key_in L) (shape L (level_of L g)) (keyed L g) (count_of L g) g p.range.to (link_of L l) i (omega arith))
      ∙ ap (λ (j : ℕ). drop j kids)
      (e ∙ ap start (ap (last_at_most k) (sym (keys_of_entries L g))
      ∙ sym (seat_is (key_in L) (shape L (level_of L g)) (keyed L g) (count_of L g) g p.range.to (link_of L l) (λ (c : Link). c.range) (ranged L l) k))))

-- an entry of a leaf page
module _ (L : Layout) (p : Link) (g : List ℕ) (fair : FairLayout L) (h : length g ≡ 512) (ok : counts_fit L p g ≡ true) (leaf : level_of L g ≡ 0) where
  pub leaf_record : (i : ℕ) → record_at (shape L (level_of L g)) g i ≡ part g (i * L.leafsize) L.leafsize
  leaf_record i = record_is (shape L (level_of L g)) g i L.leafsize (leaf_size L (level_of L g) leaf)

  pub leaf_inside : (i : ℕ) → i < count_of L g → i * L.leafsize + L.leafsize ≤ 512
  leaf_inside i l =
      rw (leaf_size L (level_of L g) leaf) at (record_inside (count_of L g) (shape L (level_of L g)).size i 512 (omega (arith, (entries_held L p g fair ok h).inside)) l)
