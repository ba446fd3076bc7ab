-- The way down of a lookup to the leaf page at which it ends, and the keys that it is the way of. Assumes nothing: these are definitions.
use Rattle.std.specs.Prelude.{ℕ, ◌≡◌, Bool, false, List, Result, Ok, Err}
use Rattle.refusal.specs.Order.{Verdict, ◌then◌}
use Rattle.keys.specs.declared.Sought.TheVariants.{Equal}
use Rattle.keys.specs.Plain.{Inside}
use Rattle.keys.specs.Range.{in_range}
use Rattle.keys.specs.Search.{scanned}
use Rattle.search.specs.Answer.{Answer, absent, refused, answer, counted}
use Rattle.search.specs.Descent.{descend}
use Rattle.header.specs.Header.{header_fits}
use Rattle.edition.specs.declared.Layout.{Layout}
use Rattle.page.specs.declared.Link.{Link}
use Rattle.page.specs.Page.{page, level_of, entries, key_in, page_fits}
use Rattle.tree.specs.Tree.{root, root_level, page_tree}
use Rattle.refusal.specs.declared.Refusal.{Refusal}
use Rattle.tree.specs.declared.Found.{Found}
use Rattle.tree.specs.declared.Found.TheVariants.{Absent, Entry}

-- what every lookup tests before it goes down: "header, then the root page"
unfoldable pub start_fits : Layout → List ℕ → Verdict
start_fits L image = header_fits image then page_fits L image (root L image)

-- the answer to a key at the end of a way
unfoldable pub at_end : Layout → List ℕ → Result (Found Link) Refusal → ℕ → Answer (List ℕ)
at_end L image (Ok (Entry leaf pages)) key = answer (scanned Equal (key_in L) key (entries L (page image leaf.offset))) pages
at_end L image (Ok (Absent pages)) key = absent pages
at_end L image (Err r) key = refused r

-- an accepted leaf page at which the lookup of every key in its range ends: from page p of this level on, when so many pages have been read before it
pub record EndsAt (L : Layout) (image : List ℕ) (level : ℕ) (p : Link) (before : ℕ) (leaf : Link) (pages : ℕ) : Type 0 where
  pub accepted : page_fits L image leaf ≡ Ok tt
  pub is_leaf : level_of L (page image leaf.offset) ≡ 0
  pub within : (key : ℕ) → Inside leaf.range key → Inside p.range key
  pub ends : (key : ℕ) → Inside leaf.range key → at_end L image (Ok (Entry leaf pages)) key ≡ counted before (descend (page_tree L image) Equal key level p)

-- a way that is the way of every key which it leads to
unfoldable pub Leading : Layout → List ℕ → ℕ → Link → ℕ → Result (Found Link) Refusal → Type 0
Leading L image level p before (Ok (Entry leaf pages)) = EndsAt L image level p before leaf pages
Leading L image level p before (Ok (Absent pages)) = Unit {0}
Leading L image level p before (Err r) = Unit {0}

-- the same from the root page on
abbrev pub FromRoot : Layout → List ℕ → Result (Found Link) Refusal → Type 0
FromRoot L image way = Leading L image (root_level L image) (root L image) 0 way

-- the keys that it leads to: those in the range of its leaf page
unfoldable pub leads_to : Result (Found Link) Refusal → ℕ → Bool
leads_to (Ok (Entry leaf pages)) key = in_range leaf.range key
leads_to (Ok (Absent pages)) key = false
leads_to (Err r) key = false
