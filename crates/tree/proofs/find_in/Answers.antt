use Rattle.tree.proofs.Ways.{leads_nowhere}
use Rattle.tree.proofs.find_in.Goals as goal

pub way_to-way-requires : goal.way_to-way-requires
way_to-way-requires g c =
    let a = c.args in
    (c.requires.0, c.check_root-start.ensures, leads_nowhere a.l a.image.now _ _ _ _)
