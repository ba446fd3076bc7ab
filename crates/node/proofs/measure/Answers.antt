use Rattle.tree.proofs.Ways.{leads_nowhere}
use Rattle.block.specs.Block.{checked_block}
use Prim.Native.Nat.{ℕ, ◌+◌}
use Rattle.std.proofs.Common.{rules, ◌≡◌, sym, ap, ◌∙◌, Err}
use mathlib.Core.List.{List}
use native.Mathlib.Omega.{arith}
use Rattle.node.specs.Content.{number_at, kids_of}
use Rattle.node.specs.Steps.{measured_in}
use Rattle.node.proofs.Numbers.{rest, rest_all, rest_at, rest_none, number_inside}
use Rattle.node.proofs.Kids.{add_to, add_none, measure_on, measure_ends, measure_done}
use Rattle.block.proofs.BlockLaws.{checked_size}
use Rattle.node.proofs.measure.Goals as goal

pub check_root-start-requires : goal.check_root-start-requires
check_root-start-requires c = (c.requires.0.blocks, c.requires.3)

pub loop-i-init : goal.loop-i-init
loop-i-init c =
    let a = c.args in
    (omega arith, omega arith, sym (ap (λ (ns : List ℕ). add_to 0 (measured_in (kids_of a.e a.image.now ns))) (rest_all a.e.tree a.root.now a.count) ∙ add_none _), c.check_root-start.ensures, leads_nowhere a.e.blocks a.image.now _ _ _ _)

pub number_at-number-requires : goal.number_at-number-requires
number_at-number-requires c =
    (c.requires.0.tree, number_inside c.args.e.tree.word c.args.count c.loop-i.i c.args.root.now c.requires.1 (omega arith), omega arith)

pub way_to-way-requires : goal.way_to-way-requires
way_to-way-requires c = (c.requires.0.blocks, c.loop-i.invariant.3, c.loop-i.invariant.4)

pub check_block_at-requires : goal.check_block_at-requires
check_block_at-requires c = (c.requires.0, c.way_to-way.ensures.1, c.way_to-way.ensures.0)

pub returns-in_err-sum : goal.returns-in_err-sum
returns-in_err-sum c =
    let a = c.args in
    let l = c.loop-i in
    let e : c.from_residual.result ≡ Err c.in_err-sum.field-0.0 = search rules in
    e
    ∙ measure_ends a.e a.image.now (number_at a.e.tree a.root.now l.i) (rest a.e.tree a.root.now a.count (l.i + 1)) l.sum _
    (sym (ap (checked_block a.e a.image.now) c.number_at-number.ensures) ∙ sym c.in_err-sum.ensures)
    ∙ ap (λ (ns : List ℕ). add_to l.sum (measured_in (kids_of a.e a.image.now ns))) (sym (rest_at a.e.tree a.root.now a.count l.i (omega arith)))
    ∙ sym l.invariant.2

pub overflow_add-sum : goal.overflow_add-sum
overflow_add-sum c =
    let a = c.args in
    let l = c.loop-i in
    omega (arith, c.requires.0.trailer.most, checked_size a.e a.image.now _ _ (sym (ap (checked_block a.e a.image.now) c.number_at-number.ensures) ∙ sym c.in_ok-sum.ensures))

pub loop-i-preserved : goal.loop-i-preserved
loop-i-preserved c =
    let a = c.args in
    let l = c.loop-i in (
      omega arith,
      omega (arith, c.requires.0.trailer.most, checked_size a.e a.image.now _ _ (sym (ap (checked_block a.e a.image.now) c.number_at-number.ensures) ∙ sym c.in_ok-sum.ensures)),
      l.invariant.2
          ∙ ap (λ (ns : List ℕ). add_to l.sum (measured_in (kids_of a.e a.image.now ns))) (rest_at a.e.tree a.root.now a.count l.i (omega arith))
          ∙ measure_on a.e a.image.now (number_at a.e.tree a.root.now l.i) (rest a.e.tree a.root.now a.count (l.i + 1)) l.sum _ (sym (ap (checked_block a.e a.image.now) c.number_at-number.ensures) ∙ sym c.in_ok-sum.ensures),
      l.invariant.3,
      c.way_to-way.ensures.1,
    )

pub returns : goal.returns
returns c =
    let a = c.args in
    let l = c.loop-i in
    measure_done a.e a.image.now (rest a.e.tree a.root.now a.count l.i) l.sum (rest_none a.e.tree a.root.now a.count l.i (omega arith)) ∙ sym l.invariant.2
