use mathlib.Core.Path.{ap}
use Rattle.pst.specs.Meaning.{verdict_means}
use Rattle.pst.specs.Outcomes.{code_outcome, encode_buffer}
use Rattle.pst.proofs.encode.Goals as goal

pub returns : goal.returns
unfolding code_outcome encode_buffer
returns c = record { answer = ap verdict_means c.encode.ensures.answer; buffer = c.encode.ensures.buffer }
