use Rattle.std.proofs.Common.{◌≡◌, refl, sym, ap, ◌∙◌, Err, rules}
use Prim.Native.Nat.{◌-◌}
use Rattle.heaptree.specs.Steps.{chosen_in}
use Rattle.heaptree.proofs.StepLaws.{refused_held, accepted_held, leaf_held, index_held, under_fault, under_leaf, under_absent, under_on}
use Rattle.heaptree.proofs.+find_under.Goals as goal

pub returns-in_err-count : goal.returns-in_err-count
returns-in_err-count t c =
    let a = c.args in
    let refused : c.from_residual.result ≡ Err c.in_err-count.field-0.0 = search rules in
    rw refused (under_fault a.tree a.block.now a.key a.branch _ a.levels refl _ (refused_held a.tree a.block.now a.levels a.branch _ (sym c.in_err-count.ensures)))

pub find_in_leaf-requires : goal.find_in_leaf-requires
find_in_leaf-requires t c =
    let a = c.args in
    let h = leaf_held a.tree a.block.now a.levels a.branch _ (sym c.in_ok-count.ensures) c.if-levels-eq0.true in
    (c.requires.0, h.0, c.requires.1, h.1)

pub returns-then-levels-eq0 : goal.returns-then-levels-eq0
returns-then-levels-eq0 t c =
    let a = c.args in
    under_leaf a.tree a.block.now a.key a.branch _ a.levels refl _ c.if-levels-eq0.true (accepted_held a.tree a.block.now a.levels a.branch _ (sym c.in_ok-count.ensures)).0 c.find_in_leaf.ensures

pub choose_child-requires : goal.choose_child-requires
choose_child-requires t c =
    let a = c.args in
    let h = index_held a.tree a.block.now a.levels a.branch _ (sym c.in_ok-count.ensures) c.if-levels-eq0.false in
    (c.requires.0, h.0, c.requires.1, h.1)

pub returns-in_default : goal.returns-in_default
returns-in_default t c =
    let a = c.args in
    under_absent a.tree a.block.now a.key a.branch _ a.levels refl c.if-levels-eq0.false (accepted_held a.tree a.block.now a.levels a.branch _ (sym c.in_ok-count.ensures)).0
    (sym (ap chosen_in c.in_default.is) ∙ c.choose_child.ensures (a.levels - 1))

pub returns : goal.returns
returns t c =
    let a = c.args in
    under_on a.tree a.block.now a.key a.branch _ a.levels refl c.if-levels-eq0.false (accepted_held a.tree a.block.now a.levels a.branch _ (sym c.in_ok-count.ensures)).0 _ c.in-Some.child
    (sym (ap chosen_in c.in-Some.is) ∙ c.choose_child.ensures (a.levels - 1)) c.find_under.ensures
