-- In any image at all: a call is refused with the first fault of the rules that it tries, and counts the pages that it reads; a lookup counts the pages of its path. Assumes nothing.
use Prim.Native.Nat.{ℕ}
use mathlib.Core.Path.{◌≡◌, sym, subst}
use mathlib.Core.List.{List, [], map}
use lib.ListN.{length, length-map}
use Rattle.refusal.specs.Order.{Verdict, in_order, after}
use Rattle.keys.specs.declared.Sought.{Sought}
use Rattle.search.specs.Answer.{Answer, refused}
use Rattle.search.specs.Descent.{descend, reads, path_under}
use Rattle.search.specs.Promises.{Counts}
use Rattle.search.proofs.Searched.{counts, path_short}
use Rattle.search.proofs.Tried.{verdict_of, checked_tried, checked_first_fault, checked_counts, reads_counted}
use Rattle.header.specs.Header.{header_rules, header_fits}
use Rattle.edition.specs.declared.Layout.{Layout}
use Rattle.page.specs.declared.Link.{Link}
use Rattle.page.specs.Layout.{compared}
use Rattle.tree.specs.Tree.{root, root_level, page_tree}
use Rattle.tree.specs.Lookup.{asked_for, searched, path, search_rules, pages_read}
use Rattle.tree.specs.Demand3.{PathCountedHolds, ReadInOrderHolds}
use Rattle.std.specs.Prelude.{Ok, Err}

same_count : (ps : List Link) (a : Answer (List ℕ)) → Counts (length ps) a → Counts (length (map (λ p. p.offset) ps)) a
same_count ps a h = subst (λ (n : ℕ). Counts n a) (sym (length-map ps (λ p. p.offset))) h

pub path_counted : PathCountedHolds
unfolding searched path
path_counted L image key =
    let F = page_tree L image in
    let ps = path_under F (compared L key) (root_level L image) (root L image) in
    record {
      counts = checked_counts _ (header_fits image) _ (same_count ps _ (counts F (compared L key) (root_level L image) (root L image)));
      short = rw (length-map ps (λ p. p.offset)) (path_short F (compared L key) (root_level L image) (root L image));
    }

-- the rules tried tell the refusal
pub search_tried : (s : Sought) (L : Layout) (image : List ℕ) (key : ℕ) → in_order (search_rules s L image key) ≡ verdict_of (searched s L image key)
unfolding searched search_rules header_fits
search_tried s L image key = checked_tried (page_tree L image) s (asked_for s L key) (header_rules image) (root_level L image) (root L image)

pub in_order_lem : ReadInOrderHolds
unfolding searched search_rules pages_read header_fits after Counts
in_order_lem s L image key =
    record {
      first_fault = λ r. checked_first_fault (page_tree L image) s (asked_for s L key) (header_rules image) (root_level L image) (root L image) r;
      counts = by (header_fits image) (reads_counted (page_tree L image) s (asked_for s L key) (root_level L image) (root L image));
    }
  where
    read : List Link
    read = reads (page_tree L image) s (asked_for s L key) (root_level L image) (root L image)

    by : (v : Verdict) → Counts (length read) (descend (page_tree L image) s (asked_for s L key) (root_level L image) (root L image))
        → Counts (length (after (λ r. []) v (map (λ p. p.offset) read))) (after refused v (descend (page_tree L image) s (asked_for s L key) (root_level L image) (root L image)))
    by (Ok tt) h = same_count read (descend (page_tree L image) s (asked_for s L key) (root_level L image) (root L image)) h
    by (Err r) h = tt
