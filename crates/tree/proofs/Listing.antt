-- A listing of an accepted tree is its scan. Assumes nothing.
use Prim.Native.Nat.{ℕ, ◌+◌, ◌*◌, ◌^◌, ◌≤◌, ◌<◌, zero-le}
use mathlib.Core.Path.{◌≡◌, sym, ap, ◌∙◌}
use mathlib.Core.List.{List, [], map}
use native.Mathlib.Nat.{le_trans, pow-le-pow_right, zero-lt-suc}
use lib.ListN.{length, length-map}
use Rattle.le.specs.Bytes.{Bytes}
use Rattle.refusal.specs.Order.{Verdict, after}
use Rattle.keys.specs.declared.Sought.TheVariants.{AtLeast}
use Rattle.keys.specs.Plain.{All}
use Rattle.keys.specs.Search.{from_key}
use Rattle.keys.proofs.SearchLaws.{all_map}
use Rattle.search.specs.Answer.{answer}
use Rattle.search.specs.Descent.{reads}
use Rattle.search.specs.Promises.{Says}
use Rattle.search.proofs.Checked.{leaves_climb, all_leaves}
use Rattle.search.proofs.Few.{few}
use Rattle.search.proofs.Lists.{lists_all}
use Rattle.header.specs.Header.{header_fits}
use Rattle.edition.specs.declared.Layout.{Layout}
use Rattle.page.specs.declared.Link.{Link}
use Rattle.page.specs.Layout.{as_given}
use Rattle.page.specs.Page.{number_in, key_in}
use Rattle.page.proofs.PageLaws.{given_small, entries_short, number_least, number_above}
use Rattle.tree.specs.Tree.{root, root_level, page_tree, tree_fits, scan}
use Rattle.tree.specs.Lookup.{next, pages_read}
use Rattle.tree.specs.Listing.{ListingHolds, FewPagesHolds, ListsHolds}
use Rattle.tree.proofs.Searched.{sorted, filled}
use Rattle.tree.proofs.Demand3.{tree, from_root_lem, scans}
use Rattle.std.specs.Prelude.{Ok, Err}

pub listing : ListingHolds
unfolding scan
listing L image ok =
    record {
      answers = λ from. let s = (scans L image ok).lists (as_given L from) in record { count = s.count; is = from_root_lem L image ok AtLeast from ∙ s.is };
      absent_iff = λ from. (
        (λ t. ((scans L image ok).lists_none (as_given L from)).0 (record { count = t.count; is = sym (from_root_lem L image ok AtLeast from) ∙ t.is })),
        (λ a. let t = ((scans L image ok).lists_none (as_given L from)).1 a in record { count = t.count; is = from_root_lem L image ok AtLeast from ∙ t.is }),
      );
    }

-- however the image stands, few pages are read
pub few_pages_read : FewPagesHolds
unfolding pages_read after
few_pages_read L image from = by (header_fits image)
  where
    read : List Link
    read = reads (page_tree L image) AtLeast (as_given L from) (root_level L image) (root L image)

    by : (v : Verdict) → length (after (λ r. []) v (map (λ p. p.offset) read)) ≤ 2 * root_level L image + 1
    by (Ok tt) = rw (length-map read (λ p. p.offset)) (few (page_tree L image) (sorted L image) (filled L image) (as_given L from) (root_level L image) (root L image)).few
    by (Err r) = zero-le

-- the numbers of entries made of bytes
module _ (L : Layout) where
  abbrev pub Short : List ℕ → Type 0
  Short e = number_in L e < 256 ^ L.key

  module _ (image : List ℕ) (h : Bytes image) where
    pub scan_short : All Short (scan L image)
    unfolding scan
    scan_short = all_leaves (page_tree L image) Short (λ l p. entries_short L image h p.offset) (root_level L image) (root L image)

  module _ (image : List ℕ) (ok : tree_fits L image ≡ Ok tt) where
    here : (k : ℕ) → k < 256 ^ L.sought → Says (next L image k) (from_key (key_in L) k (scan L image))
    here k h =
        let s = (listing L image ok).answers k in
        record { count = s.count; is = s.is ∙ ap (λ o. answer o s.count) (ap (λ (j : ℕ). from_key (key_in L) j (scan L image)) (given_small L k h)) }

pub lists : ListsHolds
unfolding scan root
lists L image small bytes ok =
    let powers = pow-le-pow_right {n = 256} (zero-lt-suc 255) small in
    let least = pow-le-pow_right {n = 256} (zero-lt-suc 255) (zero-le {n = L.sought}) in
    lists_all (next L image) (key_in L) (number_in L) (record { least = number_least L; above = number_above L }) (256 ^ L.sought) (scan L image) (here L image ok) least
    (leaves_climb (page_tree L image) (sorted L image) (root_level L image) (root L image) (tree L image ok))
    (all_map (λ e b. le_trans b powers) (scan L image) (scan_short L image bytes))
