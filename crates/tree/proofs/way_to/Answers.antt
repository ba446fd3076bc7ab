use Rattle.std.proofs.Common.{rules, ◌≡◌, Err}
use mathlib.Core.Path.{sym, ap, ◌∙◌}
use native.Mathlib.Omega.{arith}
use Rattle.header.proofs.HeaderLaws.{header_length}
use Rattle.keys.specs.declared.Sought.TheVariants.{Equal}
use Rattle.page.specs.Page.{page_fits}
use Rattle.tree.specs.Ways.{at_end, leads_to}
use Rattle.tree.proofs.Walk.{accepted_offset}
use Rattle.tree.proofs.Steps.{root_on}
use Rattle.tree.proofs.Ways.{lookup_refused, start_header, start_root, way_again, leads_refused, leads_from_root}
use Rattle.tree.proofs.way_to.Goals as goal

pub returns-in_err-start : goal.returns-in_err-start
unfolding at_end
returns-in_err-start c =
    let a = c.args in
    let pre = c.requires in
    let e : c.from_residual.result ≡ Err c.in_err-start.field-0.0 = search rules in
    rw e (lookup_refused a.l a.image.now a.key _ (sym pre.1 ∙ c.in_err-start.was), leads_refused a.l a.image.now _ _ _ _)

pub returns-then-leads_to : goal.returns-then-leads_to
returns-then-leads_to c =
    let a = c.args in
    let pre = c.requires in
    let leads = ap (leads_to a.last) (sym c.compared-sought.ensures) ∙ sym c.leads_to.ensures ∙ c.if-leads_to.true in
    (way_again a.l a.image.now (sym pre.1 ∙ c.in_ok-start.was) a.key a.last pre.2 leads, pre.2)

pub root_link-p-requires : goal.root_link-p-requires
root_link-p-requires c =
    let pre = c.requires in
    (pre.0, header_length _ (start_header _ _ (sym pre.1 ∙ c.in_ok-start.was)))

pub way_from-requires : goal.way_from-requires
way_from-requires c =
    let a = c.args in
    let pre = c.requires in
    let accepted = sym pre.1 ∙ c.in_ok-start.was in
    let ok = ap (page_fits a.l a.image.now) c.root_link-p.ensures ∙ start_root a.l a.image.now accepted in
    (pre.0, ok, sym (c.stated_level-level.ensures.0 (accepted_offset a.l a.image.now c.root_link-p.result ok)), omega (arith, c.stated_level-level.ensures.1))

pub returns : goal.returns
returns c =
    let a = c.args in
    let pre = c.requires in
    let accepted = sym pre.1 ∙ c.in_ok-start.was in
    let p = c.root_link-p in
    let level = c.stated_level-level in
    let ok = ap (page_fits a.l a.image.now) p.ensures ∙ start_root a.l a.image.now accepted in
    let sought = c.compared-sought.ensures in (
      ap (at_end a.l a.image.now c.way_from.result) (sym sought)
          ∙ c.way_from.ensures.0
          ∙ root_on a.l a.image.now Equal a.key _ _ _ (sym (start_header a.l a.image.now accepted)) p.ensures sought level.ensures.0,
      leads_from_root a.l a.image.now _ _ _ p.ensures (sym (level.ensures.0 (accepted_offset a.l a.image.now p.result ok))) c.way_from.ensures.1,
    )
