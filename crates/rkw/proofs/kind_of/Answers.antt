use mathlib.Core.Path.{sym, ap}
use Rattle.pst.specs.Meaning.{kind_of}
use Rattle.rkw.proofs.kind_of.Goals as goal

pub returns-in-Nothing : goal.returns-in-Nothing
unfolding kind_of
returns-in-Nothing c = ap kind_of (sym c.in-Nothing.is)

pub returns-in-Item : goal.returns-in-Item
unfolding kind_of
returns-in-Item c = ap kind_of (sym c.in-Item.is)

pub returns-in-Subnode : goal.returns-in-Subnode
unfolding kind_of
returns-in-Subnode c = ap kind_of (sym c.in-Subnode.is)
