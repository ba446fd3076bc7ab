use mathlib.Core.Path.{ap}
use Rattle.pst.specs.Meaning.{verdict_means}
use Rattle.pst.specs.Outcomes.{code_outcome, decode_buffer}
use Rattle.pst.proofs.decode.Goals as goal

pub returns : goal.returns
unfolding code_outcome decode_buffer
returns c = record { answer = ap verdict_means c.decode.ensures.answer; buffer = c.decode.ensures.buffer }
