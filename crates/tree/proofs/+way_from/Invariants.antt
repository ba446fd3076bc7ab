use Rattle.tree.proofs.+way_from.Given as goal

abbrev pub decreases-way_from : goal.decreases-way_from
decreases-way_from l = l.level
