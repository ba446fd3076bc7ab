use Prim.Native.Nat.{◌≤◌}
use mathlib.Core.Path.{◌≡◌}
use lib.ListN.{length, take, drop}
use Rattle.keys.specs.Search.{joined}
use Rattle.laws.specs.Front.{fronted}
use Rattle.tree.specs.Ways.{start_fits, FromRoot}
use Rattle.node.specs.Content.{numbers_from}
use Rattle.node.specs.Steps.{AllListed, bytes_at}
use Rattle.node.proofs.Numbers.{rest}
use Rattle.node.proofs.gather.Given as goal

abbrev pub invariant-loop-i : goal.invariant-loop-i
invariant-loop-i l =
    let whole = joined (bytes_at l.e l.image) (numbers_from l.e.tree l.root 0 l.count) in
    (l.i ≤ l.count) × (l.n ≤ length whole) × (length l.out ≡ length l.initial.out) × AllListed l.e l.image (rest l.e.tree l.root l.count l.i)
    × (drop l.n whole ≡ joined (bytes_at l.e l.image) (rest l.e.tree l.root l.count l.i)) × (l.out ≡ fronted (take l.n whole) l.initial.out)
    × (l.start ≡ start_fits l.e.blocks l.image) × FromRoot l.e.blocks l.image l.way
