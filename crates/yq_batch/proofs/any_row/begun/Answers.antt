use Rattle.std.{proofs.Common.{Option, subst}, specs.Prelude.IfSome}
use Rattle.yq_text.specs.Halves.{whole}
use Rattle.yq_batch.{specs.OpenRows.MayBeginInRows, specs.RowEnds.IsEndThere, proofs.RowOpenAnswers.begins_in_rows}
use Rattle.yq_batch.specs.declared.row_ends.EntriesEnd.{EntriesEnd}
use Rattle.yq_batch.proofs.any_row.begun.Goals as goal

pub returns : goal.returns
returns c =
    let u = whole c.text.result in
    let w = c.in-Some.end in
    let begins = subst (MayBeginInRows u w) c.in-Some-3.is c.in_ok-run.ensures in
    let there = subst (λ (o : Option (Option EntriesEnd)). IfSome o (λ x. IfSome x (IsEndThere c.args.cut.now))) c.in-Some.is c.end_for.ensures in
    begins_in_rows c.args.cut.now u c.args.ops.now c.in-Some-document_of.doc w c.in_ok-changes.field-0 c.in-Some-2.changes c.in-Some-3.run' c.text.ensures.text c.in_ok-changes.ensures c.in-Some-2.is begins there
    c.in-Some-document_of.ensures
