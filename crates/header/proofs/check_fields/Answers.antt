use Rattle.std.proofs.Common.{rules, ◌≡◌, sym, ◌∙◌, Err}
use Rattle.refusal.proofs.OrderLaws.{goes, ends}
use Rattle.header.proofs.HeaderLaws.{fields_are, marks_long}
use Rattle.header.proofs.check_fields.Goals as goal

pub returns-in_err-check_marks : goal.returns-in_err-check_marks
returns-in_err-check_marks c =
    let e : c.from_residual.result ≡ Err c.in_err-check_marks.field-0.0 = search rules in
    e ∙ sym (fields_are _ ∙ ends Err _ _ _ (sym c.in_err-check_marks.ensures))

pub check_seals-requires : goal.check_seals-requires
check_seals-requires c = marks_long _ (sym c.in_ok-check_marks.ensures)

pub returns : goal.returns
returns c = c.check_seals.ensures ∙ sym (fields_are _ ∙ goes Err _ _ (sym c.in_ok-check_marks.ensures))
