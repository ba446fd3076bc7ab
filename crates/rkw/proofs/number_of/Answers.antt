use mathlib.Core.Path.{sym, ap}
use Rattle.pst.specs.Meaning.{number_of}
use Rattle.rkw.proofs.number_of.Goals as goal

pub returns-in-Nothing : goal.returns-in-Nothing
unfolding number_of
returns-in-Nothing c = ap number_of (sym c.in-Nothing.is)

pub returns-in-Item : goal.returns-in-Item
unfolding number_of
returns-in-Item c = ap number_of (sym c.in-Item.is)

pub returns-in-Subnode : goal.returns-in-Subnode
unfolding number_of
returns-in-Subnode c = ap number_of (sym c.in-Subnode.is)
