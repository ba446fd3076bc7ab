use Prim.Native.Nat.{ℕ}
use mathlib.Core.Path.{◌≡◌, sym, ap, ◌∙◌}
use mathlib.Core.List.{List}
use Rattle.keys.specs.declared.Range.{Range}
use Rattle.keys.specs.declared.Shape.{Shape}
use Rattle.keys.specs.Records.{keys_of}
use Rattle.edition.specs.declared.Layout.{Layout}
use Rattle.page.specs.Layout.{shape}
use Rattle.keys.specs.Range.{ordered}
use Rattle.page.specs.Page.{count_of, level_of, keys_in}
use Rattle.page.proofs.KeyLaws.{told, keys_told}
use Rattle.page.proofs.PageLaws.{entries_held, keys_of_entries}
use Rattle.page.proofs.check_keys.Goals as goal
use Rattle.std.specs.Prelude.{Result, Err, ⊤}
use Rattle.keys.specs.declared.Disorder.{Disorder}

-- what is found of the page's keys, by the shape and the count that were read
found : (l : Layout) (range : Range) (g : List ℕ) (s : Shape) (count : ℕ) (r : Result ⊤ Disorder) → r ≡ ordered range (keys_of s count g) → s ≡ shape l (level_of l g) → count ≡ count_of l g
    → r ≡ ordered range (keys_in l g)
unfolding keys_in
found l range g s count r e h k = e ∙ ap (ordered range) (rw (h, k) (keys_of_entries l g))

pub check_keys-requires : goal.check_keys-requires
check_keys-requires c =
    let a = c.args in
    let pre = c.requires in
    rw (c.shape_in.ensures, c.count_of.ensures.0) (entries_held a.l a.p a.page.now pre.0 pre.2 pre.1)

pub returns-in-Ok : goal.returns-in-Ok
unfolding told
returns-in-Ok c =
    let a = c.args in
    sym (keys_told a.p _ ∙ ap (told a.p.offset) (sym (found a.l _ a.page.now _ _ _ c.check_keys.ensures c.shape_in.ensures c.count_of.ensures.0) ∙ c.in-Ok.is))

pub returns-in-Err-Unordered : goal.returns-in-Err-Unordered
unfolding told
returns-in-Err-Unordered c =
    let a = c.args in
    c.refused_entry.ensures
    ∙ sym (keys_told a.p _ ∙ ap (told a.p.offset) (sym (found a.l _ a.page.now _ _ _ c.check_keys.ensures c.shape_in.ensures c.count_of.ensures.0) ∙ c.in-Err-Unordered.is ∙ ap Err c.in-Err-Unordered.field-0-is))

pub returns-in-Err-Outside : goal.returns-in-Err-Outside
unfolding told
returns-in-Err-Outside c =
    let a = c.args in
    c.refused_entry-in-Err-Outside.ensures
    ∙ sym (keys_told a.p _ ∙ ap (told a.p.offset) (sym (found a.l _ a.page.now _ _ _ c.check_keys.ensures c.shape_in.ensures c.count_of.ensures.0) ∙ c.in-Err-Outside.is ∙ ap Err c.in-Err-Outside.field-0-is))
