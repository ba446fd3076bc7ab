use mathlib.Core.Path.{sym}
use Rattle.heaptree.proofs.RootLaws.{root_short, root_bytes}
use Rattle.heaptree.proofs.root_fits.Goals as goal

pub returns-then-root-ne8 : goal.returns-then-root-ne8
returns-then-root-ne8 c = sym (root_short c.args.tree c.args.root.now c.if-root-ne8.true)

pub returns : goal.returns
returns c = root_bytes c.args.tree c.args.root.now _ _ _ _ c.if-root-ne8.false c.byte_at.ensures c.byte_at-2.ensures c.byte_at-3.ensures c.byte_at-4.ensures
