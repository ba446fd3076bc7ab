-- Nothing but the pages that a call reads changes its answer; so nothing off the path changes a lookup's. Assumes nothing.
use Prim.Native.Nat.{ℕ, zero, suc, ◌+◌}
use mathlib.Core.Path.{◌≡◌, refl, ap, ◌∙◌}
use mathlib.Core.List.{List, [], ◌∷◌, map}
use native.Mathlib.Omega.{arith}
use Rattle.le.specs.Bytes.{part}
use Rattle.refusal.specs.Order.{Verdict, in_order, after}
use Rattle.keys.specs.declared.Sought.{Sought}
use Rattle.keys.specs.declared.Sought.TheVariants.{Equal}
use Rattle.keys.specs.Plain.{All}
use Rattle.search.specs.Answer.{Answer, refused}
use Rattle.search.specs.Descent.{descend, of_read, reads, path_under}
use Rattle.search.proofs.OffPath.{Same, descend_same, reads_on_path}
use Rattle.header.specs.Header.{header_fits, file_end}
use Rattle.header.proofs.HeaderLaws.{header_agrees, end_agrees, field_agrees}
use Rattle.edition.specs.declared.Layout.{Layout}
use Rattle.page.specs.declared.Link.{Link}
use Rattle.page.specs.Layout.{compared}
use Rattle.edition.specs.Fair.{FairLayout}
use Rattle.page.specs.Page.{page, level_of, entries, key_in, page_rules}
use Rattle.page.proofs.PageLaws.{rules_agree}
use Rattle.tree.specs.Tree.{root, root_level, link_of, page_tree}
use Rattle.tree.specs.Lookup.{asked_for, searched, path, pages_read}
use Rattle.tree.specs.Demand3.{OffPathHolds, OffReadHolds}
use Rattle.std.specs.Prelude.{Ok, Err}

pub root_same : (L : Layout) (one other : List ℕ) → FairLayout L → part one 0 564 ≡ part other 0 564 → root L one ≡ root L other
unfolding root
root_same L one other fair e =
    rw (
      field_agrees one other L.root L.word e (omega (arith, fair.root)),
      field_agrees one other (L.root + L.word) L.word e (omega (arith, fair.root)),
    )

-- a page as a branch that is the same in both images
abbrev pub Alike : Layout → List ℕ → List ℕ → Link → Type 0
Alike L one other = Same (key_in L) (λ p. p.range) (λ l range e. link_of L l range e) (λ l p. page_rules L one p) (λ l p. page_rules L other p)
    (λ l p. entries L (page one p.offset)) (λ l p. entries L (page other p.offset))

module _ (L : Layout) (one other : List ℕ) (ends : file_end one ≡ file_end other) where
  alike : (p : Link) → page one p.offset ≡ page other p.offset → Alike L one other p
  alike p e = record { tested = λ l. ap in_order (rules_agree L one other p ends e); kept = λ l t. ap (entries L) e }

  all_alike : (ps : List Link) → All (λ offset. page one offset ≡ page other offset) (map (λ p. p.offset) ps) → All (Alike L one other) ps
  all_alike [] a = tt
  all_alike (p ∷ ps) a = (alike p a.0, all_alike ps a.1)

  -- the first page read is the root
  read_first : (s : Sought) (k l : ℕ) (p : Link) (P : ℕ → Type 0) → All P (map (λ p. p.offset) (reads (page_tree L one) s k l p)) → P p.offset
  unfolding of_read
  read_first s k zero p P a = a.0
  read_first s k (suc l) p P a = a.0

pub off_read : OffReadHolds
unfolding searched pages_read root_level after
off_read s L key one other fair same =
    by (header_fits one) same.same_pages ∙ ap (λ (v : Verdict). after refused v (go other)) (header_agrees one other same.same_length same.same_header)
  where
    go : List ℕ → Answer (List ℕ)
    go image = descend (page_tree L image) s (asked_for s L key) (level_of L (page image (root L image).offset)) (root L image)

    read : List Link
    read = reads (page_tree L one) s (asked_for s L key) (level_of L (page one (root L one).offset)) (root L one)

    below : All (λ offset. page one offset ≡ page other offset) (map (λ p. p.offset) read) → go one ≡ go other
    below a =
        let ends = end_agrees one other same.same_length same.same_header in
        let level = level_of L (page one (root L one).offset) in
        let first = read_first L one other ends s (asked_for s L key) level (root L one) (λ offset. page one offset ≡ page other offset) a in
        descend_same (key_in L) (λ p. p.range) (λ l range e. link_of L l range e) (λ l p. page_rules L one p) (λ l p. page_rules L other p)
        (λ l p. entries L (page one p.offset)) (λ l p. entries L (page other p.offset)) s (asked_for s L key) level (root L one) (all_alike L one other ends read a)
        ∙ ap (λ (g : List ℕ). descend (page_tree L other) s (asked_for s L key) (level_of L g) (root L one)) first
        ∙ ap (λ (p : Link). descend (page_tree L other) s (asked_for s L key) (level_of L (page other p.offset)) p) (root_same L one other fair same.same_header)

    by : (v : Verdict) → All (λ offset. page one offset ≡ page other offset) (after (λ r. []) v (map (λ p. p.offset) read)) → after refused v (go one) ≡ after refused v (go other)
    by (Ok tt) a = below a
    by (Err r) a = refl

-- what a lookup reads lies on the path
all_offsets : (P : ℕ → Type 0) (ps : List Link) → All (λ p. P p.offset) ps → All P (map (λ p. p.offset) ps)
all_offsets P [] a = tt
all_offsets P (p ∷ ps) a = (a.0, all_offsets P ps a.1)

offsets_all : (P : ℕ → Type 0) (ps : List Link) → All P (map (λ p. p.offset) ps) → All (λ p. P p.offset) ps
offsets_all P [] a = tt
offsets_all P (p ∷ ps) a = (a.0, offsets_all P ps a.1)

read_on_path : (L : Layout) (image : List ℕ) (key : ℕ) (P : ℕ → Type 0) → All P (path L image key) → All P (pages_read Equal L image key)
unfolding path pages_read after
read_on_path L image key P a = by (header_fits image)
  where
    read : List Link
    read = reads (page_tree L image) Equal (compared L key) (root_level L image) (root L image)

    on_path : All (λ p. P p.offset) (path_under (page_tree L image) (compared L key) (root_level L image) (root L image))
    on_path = offsets_all P (path_under (page_tree L image) (compared L key) (root_level L image) (root L image)) a

    by : (v : Verdict) → All P (after (λ r. []) v (map (λ p. p.offset) read))
    by (Ok tt) = all_offsets P read (reads_on_path (page_tree L image) (compared L key) (λ p. P p.offset) (root_level L image) (root L image) on_path)
    by (Err r) = tt

pub off_path : OffPathHolds
off_path L key one other fair same =
    off_read Equal L key one other fair (record {
      same_length = same.same_length;
      same_header = same.same_header;
      same_pages = read_on_path L one key (λ offset. page one offset ≡ page other offset) same.same_pages;
    })
