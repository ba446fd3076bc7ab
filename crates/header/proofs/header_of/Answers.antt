use Rattle.std.proofs.Common.{rules, ◌≡◌, sym, ap, subst, ◌∙◌, arith, Err}
use Rattle.refusal.proofs.OrderLaws.{goes, ends}
use Rattle.edition.specs.Fair.{FairLayout}
use Rattle.header.specs.Header.{root_at, says, header_of}
use Rattle.header.proofs.EditionLaws.{fair_nodes, fair_blocks}
use Rattle.header.proofs.HeaderLaws.{header_length}
use Rattle.header.proofs.header_of.Goals as goal

pub returns-in_err-check_header : goal.returns-in_err-check_header
unfolding header_of
returns-in_err-check_header c =
    let e : c.from_residual.result ≡ Err c.in_err-check_header.field-0.0 = search rules in
    e ∙ sym (ends Err _ _ _ (sym c.in_err-check_header.ensures))

pub method_of-requires : goal.method_of-requires
method_of-requires c = omega (arith, header_length _ (sym c.in_ok-check_header.ensures))

pub root_at-requires : goal.root_at-requires
root_at-requires c =
    (subst FairLayout (sym c.nodes_of.ensures) (fair_nodes _), omega (arith, header_length _ (sym c.in_ok-check_header.ensures)))

pub root_at-requires-2 : goal.root_at-requires-2
root_at-requires-2 c =
    (subst FairLayout (sym c.blocks_of.ensures) (fair_blocks _), omega (arith, header_length _ (sym c.in_ok-check_header.ensures)))

pub returns : goal.returns
unfolding header_of says
returns c =
    let image = c.args.image.now in
    let left = c.root_at.ensures ∙ ap (root_at image) c.nodes_of.ensures in
    let right = c.root_at-2.ensures ∙ ap (root_at image) c.blocks_of.ensures in
    sym (goes Err _ _ (sym c.in_ok-check_header.ensures) ∙ rw (left, right, c.method_of.ensures, c.stated_end.ensures, c.bits_of.ensures))
