use Rattle.std.proofs.Common.{rules, ◌≡◌, sym, ◌∙◌, Err}
use Rattle.refusal.proofs.OrderLaws.{goes, ends}
use Rattle.header.proofs.HeaderLaws.{header_is, fields_long}
use Rattle.header.proofs.check_header.Goals as goal

pub returns-in_err-check_fields : goal.returns-in_err-check_fields
returns-in_err-check_fields c =
    let e : c.from_residual.result ≡ Err c.in_err-check_fields.field-0.0 = search rules in
    e ∙ sym (header_is _ ∙ ends Err _ _ _ (sym c.in_err-check_fields.ensures))

pub check_last-requires : goal.check_last-requires
check_last-requires c = fields_long _ (sym c.in_ok-check_fields.ensures)

pub returns : goal.returns
returns c = c.check_last.ensures ∙ sym (header_is _ ∙ goes Err _ _ (sym c.in_ok-check_fields.ensures))
