use mathlib.Core.Path.{◌∙◌}
use native.Mathlib.Omega.{arith}
use lib.ListN.{length}
use Rattle.nodelist.proofs.ListLaws.{too_many, too_short, taken, area_left, area_filled, area_kept}
use Rattle.nodelist.proofs.find_nodes.Goals as goal

-- over 4,096
pub returns-then-count-gt4096 : goal.returns-then-count-gt4096
returns-then-count-gt4096 c =
    let a = c.args in
    let e = too_many (length a.nodes.now) (length a.places.now) (omega arith) in
    record { answer = c.refused_needing.ensures ∙ e; area = area_left a.l a.image.now a.nodes.now a.places.now _ e }

-- fewer places than numbers
pub returns-then-places-count : goal.returns-then-places-count
returns-then-places-count c =
    let lent = c.args in
    let e = too_short (length lent.nodes.now) (length lent.places.now) (omega arith) (omega arith) in
    record { answer = c.refused_needing-then-places-count.ensures ∙ e; area = area_left lent.l lent.image.now lent.nodes.now lent.places.now _ e }

pub returns-then-count-gt0 : goal.returns-then-count-gt0
returns-then-count-gt0 c =
    let a = c.args in
    let e = taken (length a.nodes.now) (length a.places.now) (omega arith) (omega arith) in
    record { answer = e; area = c.fill.ensures ∙ area_filled a.l a.image.now a.nodes.now a.places.now e }

-- an empty list
pub returns-else-count-gt0 : goal.returns-else-count-gt0
returns-else-count-gt0 c =
    let a = c.args in
    let e = taken (length a.nodes.now) (length a.places.now) (omega arith) (omega arith) in
    record { answer = e; area = area_kept a.l a.image.now a.nodes.now a.places.now (omega arith) e }
