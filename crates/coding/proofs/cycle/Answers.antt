use Rattle.std.proofs.Common.{◌+◌, ◌%◌, suc, ◌∷◌, drop, sym, ap, refl, ◌∙◌, arith}
use Rattle.laws.proofs.InPlace.{turn, ended}
use Rattle.coding.specs.Coding.{cyclic}
use Rattle.coding.proofs.cycle.Goals as goal

pub loop-byte-preserved : goal.loop-byte-preserved
unfolding cyclic
loop-byte-preserved c =
    let l = c.loop-byte in
    let next = (l.w + 1) % 65536 in
    turn (cyclic l.w) (cyclic next) l.bytes l.byte-index c.cyclic_byte.result (omega arith)
    (ap (λ b. b ∷ cyclic next (drop (suc l.byte-index) l.bytes)) (sym c.cyclic_byte.ensures))
    ∙ l.invariant

pub returns : goal.returns
unfolding cyclic
returns c =
    let l = c.loop-byte in
    sym (ended (cyclic l.w) l.bytes l.byte-index refl (omega arith)) ∙ l.invariant
