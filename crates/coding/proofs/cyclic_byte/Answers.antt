use Rattle.std.proofs.Common.{◌≡◌, ℕ, ◌/◌, ◌%◌, List, get_or, ap, ◌∙◌, arith}
use Rattle.coding.specs.Coding.{cyclic_byte}
use Rattle.coding.proofs.cyclic_byte.Goals as goal

pub returns : goal.returns
unfolding cyclic_byte
returns c =
    let w = c.args.w in
    let low : get_or c.to_le_bytes.result 0 0 ≡ w % 256 = ap (λ (s : List ℕ). get_or s 0 0) c.to_le_bytes.ensures in
    let high : get_or c.to_le_bytes.result 1 0 ≡ w / 256 = ap (λ (s : List ℕ). get_or s 1 0) c.to_le_bytes.ensures ∙ omega arith in
    cc
