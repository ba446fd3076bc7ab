-- Document 02, 2/13: which key rule a page breaks, and at which entry. Assumes nothing: these are definitions.
use Rattle.std.specs.Prelude.{ℕ, ◌≡◌, ◌↔◌, List, Ok, Err}
use Rattle.refusal.specs.declared.Fault.TheVariants.{KeyOrder, KeyRange}
use Rattle.refusal.specs.declared.Refusal.{Refusal}
use Rattle.refusal.specs.Order.{at_entry, AllHold}
use Rattle.keys.specs.Faults.{OutOfOrder, OutOfRange}
use Rattle.edition.specs.declared.Layout.{Layout}
use Rattle.page.specs.declared.Link.{Link}
use Rattle.page.specs.Page.{page, keys_in, six_to_ten, page_fits}

module _ (L : Layout) (image : List ℕ) (p : Link) where
  -- a page that passes 6 to 10, and whose i-th entry is the first at fault: not above the one before it; or above it, and outside the page's range
  abbrev pub BreaksOrder : ℕ → Type 0
  BreaksOrder i = AllHold (six_to_ten L image p) × OutOfOrder p.range (keys_in L (page image p.offset)) i

  abbrev pub BreaksRange : ℕ → Type 0
  BreaksRange i = AllHold (six_to_ten L image p) × OutOfRange p.range (keys_in L (page image p.offset)) i

  pub record KeyFaultsTold : Type 0 where
    -- 11 and 21 say just that, with the index of the entry beside the page's offset
    pub eleven : (i : ℕ) → (page_fits L image p ≡ Err (at_entry KeyOrder p.offset i)) ↔ BreaksOrder i
    pub twenty_one : (i : ℕ) → (page_fits L image p ≡ Err (at_entry KeyRange p.offset i)) ↔ BreaksRange i
    -- they come in no other form
    pub eleven_form : (r : Refusal) → page_fits L image p ≡ Err r → r.fault ≡ KeyOrder → r ≡ at_entry KeyOrder p.offset r.more
    pub twenty_one_form : (r : Refusal) → page_fits L image p ≡ Err r → r.fault ≡ KeyRange → r ≡ at_entry KeyRange p.offset r.more
    -- the first entry has none before it
    pub never_first : page_fits L image p ≡ Err (at_entry KeyOrder p.offset 0) → ⊥
    -- a page that passes 6 to 10 is accepted exactly when neither comes, of any entry
    pub neither : AllHold (six_to_ten L image p) → (page_fits L image p ≡ Ok tt) ↔ ((i : ℕ) → (BreaksOrder i → ⊥) × (BreaksRange i → ⊥))
