use borrow.Rule.Slice.PartMut.{same_len_mid}
use Prim.Native.Nat.{ℕ, ◌+◌, ◌-◌, ◌≤◌, ◌<◌}
use mathlib.Core.Path.{◌≡◌, refl, sym, ap, ◌∙◌, subst}
use mathlib.Core.List.{List, ◌++◌}
use native.Mathlib.Omega.{arith}
use lib.ListN.{length, take, drop, length-take, length-drop}
use Rattle.keys.specs.Search.{joined}
use Rattle.laws.specs.Front.{fronted}
use Rattle.edition.specs.declared.Edition.{Edition}
use Rattle.tree.specs.declared.Listed.{Listed}
use Rattle.tree.proofs.Ways.{leads_nowhere}
use Rattle.block.specs.Block.{checked_block, block_bytes}
use Rattle.node.specs.Content.{number_at, numbers_from}
use Rattle.node.specs.Steps.{IsListed, AllListed, bytes_at}
use Rattle.node.proofs.Numbers.{rest, rest_all, rest_at, joined_rest, joined_none, number_inside}
use Rattle.node.proofs.Kids.{bytes_here}
use Rattle.laws.proofs.Running.{room_left, left_on, stands_on, stands_whole}
use Rattle.block.proofs.BlockLaws.{checked_inside, checked_large, bytes_length}
use Rattle.node.proofs.gather.Goals as goal
use Rattle.std.specs.Prelude.{Ok}

-- the block of the i-th number: its bytes are the next to come, and there is room for them
module _ (e : Edition) (image root : List ℕ) (count i n : ℕ) (b : Listed) (is : checked_block e image (number_at e.tree root i) ≡ Ok b) (inside : i < count)
    (left : drop n (joined (bytes_at e image) (numbers_from e.tree root 0 count)) ≡ joined (bytes_at e image) (rest e.tree root count i)) where
  next_left : drop n (joined (bytes_at e image) (numbers_from e.tree root 0 count)) ≡ block_bytes image b ++ joined (bytes_at e image) (rest e.tree root count (i + 1))
  next_left =
      left
      ∙ joined_rest (bytes_at e image) e.tree root count i inside
      ∙ ap (λ (s : List ℕ). s ++ joined (bytes_at e image) (rest e.tree root count (i + 1))) (bytes_here e image _ _ is)

  size_is : length (block_bytes image b) ≡ b.size
  size_is = bytes_length _ _ (checked_inside _ _ _ _ is)

  space : n ≤ length (joined (bytes_at e image) (numbers_from e.tree root 0 count)) → n + b.size ≤ length (joined (bytes_at e image) (numbers_from e.tree root 0 count))
  space most = omega (arith, size_is, room_left _ (block_bytes image b) _ n most next_left)

pub check_root-start-requires : goal.check_root-start-requires
check_root-start-requires c = (c.requires.fair_edition.0.blocks, c.requires.fair_edition.4)

pub loop-i-init : goal.loop-i-init
loop-i-init c =
    let a = c.args in
    let same = sym (rest_all a.e.tree a.root.now a.count) in
    (omega arith, omega arith, refl, subst (AllListed a.e a.image.now) same c.requires.fair_edition.3, ap (joined (bytes_at a.e a.image.now)) same, refl, c.check_root-start.ensures, leads_nowhere a.e.blocks a.image.now _ _ _ _)

pub number_at-child-requires : goal.number_at-child-requires
number_at-child-requires c =
    (c.requires.fair_edition.0.tree, number_inside c.args.e.tree.word c.args.count c.loop-i.i c.args.root.now c.requires.fair_edition.1 (omega arith), omega arith)

pub way_to-way-requires : goal.way_to-way-requires
way_to-way-requires c = (c.requires.fair_edition.0.blocks, c.loop-i.invariant.6, c.loop-i.invariant.7)

pub listed_at-b-requires : goal.listed_at-b-requires
listed_at-b-requires c =
    let a = c.args in
    let l = c.loop-i in
    (c.requires.fair_edition.0, subst (IsListed a.e a.image.now) (sym c.number_at-child.ensures) (subst (AllListed a.e a.image.now) (rest_at a.e.tree a.root.now a.count l.i (omega arith)) l.invariant.3).0, c.way_to-way.ensures.1, c.way_to-way.ensures.0)

pub slice_bounds-block_into-count : goal.slice_bounds-block_into-count
slice_bounds-block_into-count c = omega arith

pub slice_bounds-block_into-start : goal.slice_bounds-block_into-start
slice_bounds-block_into-start c = omega arith

pub slice_bounds-block_into-end : goal.slice_bounds-block_into-end
slice_bounds-block_into-end c = omega arith

pub block_into-requires : goal.block_into-requires
block_into-requires c =
    (checked_large _ _ _ _ (sym (ap (checked_block c.args.e c.args.image.now) c.number_at-child.ensures) ∙ c.listed_at-b.ensures), checked_inside _ _ _ _ (sym (ap (checked_block c.args.e c.args.image.now) c.number_at-child.ensures) ∙ c.listed_at-b.ensures), simp (length-take, length-drop) (omega (arith, space c.args.e c.args.image.now c.args.root.now c.args.count c.loop-i.i c.loop-i.n _ (sym (ap (checked_block c.args.e c.args.image.now) c.number_at-child.ensures) ∙ c.listed_at-b.ensures) (omega arith) c.loop-i.invariant.4 c.loop-i.invariant.1, c.loop-i.invariant.2, c.requires.count_in_bounds)))

pub overflow_add-n : goal.overflow_add-n
overflow_add-n c = omega (arith, space c.args.e c.args.image.now c.args.root.now c.args.count c.loop-i.i c.loop-i.n _ (sym (ap (checked_block c.args.e c.args.image.now) c.number_at-child.ensures) ∙ c.listed_at-b.ensures) (omega arith) c.loop-i.invariant.4 c.loop-i.invariant.1, c.requires.count_in_bounds)

pub loop-i-preserved : goal.loop-i-preserved
loop-i-preserved c =
    let a = c.args in
    let l = c.loop-i in
    let e = c.block_into in
    let s = block_bytes a.image.now c.listed_at-b.result in
    let whole = joined (bytes_at a.e a.image.now) (numbers_from a.e.tree a.root.now 0 a.count) in
    let more = joined (bytes_at a.e a.image.now) (rest a.e.tree a.root.now a.count (l.i + 1)) in (
      omega arith,
      omega (arith, space c.args.e c.args.image.now c.args.root.now c.args.count c.loop-i.i c.loop-i.n _ (sym (ap (checked_block c.args.e c.args.image.now) c.number_at-child.ensures) ∙ c.listed_at-b.ensures) (omega arith) c.loop-i.invariant.4 l.invariant.1),
      same_len_mid l.n (length l.out - l.n) l.out e.new.out e.auto.out ∙ l.invariant.2,
      (subst (AllListed a.e a.image.now) (rest_at a.e.tree a.root.now a.count l.i (omega arith)) l.invariant.3).1,
      ap (λ (k : ℕ). drop (l.n + k) whole) (sym (size_is c.args.e c.args.image.now c.args.root.now c.args.count c.loop-i.i c.loop-i.n _ (sym (ap (checked_block c.args.e c.args.image.now) c.number_at-child.ensures) ∙ c.listed_at-b.ensures) (omega arith) c.loop-i.invariant.4)) ∙ left_on whole s more l.n l.invariant.1 (next_left c.args.e c.args.image.now c.args.root.now c.args.count c.loop-i.i c.loop-i.n _ (sym (ap (checked_block c.args.e c.args.image.now) c.number_at-child.ensures) ∙ c.listed_at-b.ensures) (omega arith) c.loop-i.invariant.4),
      ap (λ (x : List ℕ). take l.n l.out ++ (x ++ drop (length l.out - l.n) (drop l.n l.out))) e.ensures
          ∙ stands_on whole s more l.n l.invariant.1 (next_left c.args.e c.args.image.now c.args.root.now c.args.count c.loop-i.i c.loop-i.n _ (sym (ap (checked_block c.args.e c.args.image.now) c.number_at-child.ensures) ∙ c.listed_at-b.ensures) (omega arith) c.loop-i.invariant.4) a.out.now l.out l.invariant.5
          ∙ ap (λ (k : ℕ). fronted (take (l.n + k) whole) a.out.now) (size_is c.args.e c.args.image.now c.args.root.now c.args.count c.loop-i.i c.loop-i.n _ (sym (ap (checked_block c.args.e c.args.image.now) c.number_at-child.ensures) ∙ c.listed_at-b.ensures) (omega arith) c.loop-i.invariant.4),
      l.invariant.6,
      c.way_to-way.ensures.1,
    )

pub shape_of-out : goal.shape_of-out
shape_of-out c = c.loop-i.invariant.2

pub returns : goal.returns
returns c =
    let a = c.args in
    let l = c.loop-i in
    stands_whole _ a.out.now l.out l.n l.invariant.1 (l.invariant.4 ∙ joined_none (bytes_at a.e a.image.now) a.e.tree a.root.now a.count l.i (omega arith)) l.invariant.5
