use Rattle.std.proofs.Common.{rules}
use Rattle.nodelist.specs.Places.{node_words}
use Rattle.nodelist.proofs.words_of.Goals as goal

pub returns-in-Ok-Entry : goal.returns-in-Ok-Entry
unfolding node_words
returns-in-Ok-Entry c = search rules

pub returns-in-Ok-Absent : goal.returns-in-Ok-Absent
unfolding node_words
returns-in-Ok-Absent c = search rules

pub returns-in-Err : goal.returns-in-Err
unfolding node_words
returns-in-Err c = search rules
