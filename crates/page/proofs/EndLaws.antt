-- A page is tested alike in images that are alike to the file's end, and is the same there where it is accepted. Assumes nothing.
use Prim.Native.Nat.{ℕ, ◌+◌, ◌≤◌, ◌<◌}
use mathlib.Core.Path.{◌≡◌, refl, sym, ap, ◌∙◌}
use mathlib.Core.Bool.{Bool, true, false}
use mathlib.Core.List.{List}
use native.Mathlib.Omega.{arith}
use Rattle.refusal.specs.declared.Fault.TheVariants.{PageOffset}
use Rattle.refusal.specs.Order.{◌at◌, in_order}
use Rattle.header.specs.Header.{file_end}
use Rattle.header.specs.End.{AlikeToEnd}
use Rattle.header.proofs.EndLaws.{part_alike}
use Rattle.edition.specs.declared.Layout.{Layout}
use Rattle.page.specs.declared.Link.{Link}
use Rattle.page.specs.Page.{page, offset_fits, page_fits}
use Rattle.page.proofs.PageLaws.{offset_ends, page_rules_lem, page_ends, rules_agree}
use Rattle.page.proofs.Exactly.{page_exactly}
use Rattle.std.specs.Prelude.{Ok, Err}

module _ (L : Layout) (one other : List ℕ) (alike : AlikeToEnd one other) (p : Link) where
  offset_alike : offset_fits one p.offset ≡ offset_fits other p.offset
  unfolding offset_fits
  offset_alike = rw alike.end

  same_inside : p.offset + 512 ≤ file_end one → page one p.offset ≡ page other p.offset
  unfolding page
  same_inside h = part_alike one other alike p.offset 512 h

  pub page_alike : page_fits L one p ≡ page_fits L other p
  page_alike = by (offset_fits one p.offset) refl
    where
      by : (b : Bool) → offset_fits one p.offset ≡ b → page_fits L one p ≡ page_fits L other p
      by true e =
          page_rules_lem L one p ∙ ap in_order (rules_agree L one other p alike.end (same_inside (offset_ends one p.offset e)))
          ∙ sym (page_rules_lem L other p)
      by false e = sym (page_ends L one p e) ∙ page_ends L other p (sym offset_alike ∙ e)

  pub page_same : page_fits L one p ≡ Ok tt → page one p.offset ≡ page other p.offset
  page_same t = same_inside ((page_exactly L one p).0 t).ends

-- a page that passes the file's end is refused with 6, whatever its bytes
pub page_behind : (L : Layout) (image : List ℕ) (p : Link) → file_end image < p.offset + 512 → page_fits L image p ≡ Err (PageOffset at p.offset)
page_behind L image p h = by (offset_fits image p.offset) refl
  where
    by : (b : Bool) → offset_fits image p.offset ≡ b → page_fits L image p ≡ Err (PageOffset at p.offset)
    by true e = absurd (omega (arith, offset_ends image p.offset e))
    by false e = sym (page_ends L image p e)
