use Rattle.std.proofs.Common.{◌∙◌, sym, ap}
use Rattle.yq_row_table.specs.View.{bound_view}
use Rattle.yq_documents.{specs.PartNumbers.rows_to, proofs.PartNumberLaws.{none_before, start_agrees}}
use Rattle.yq_documents.proofs.parts.rows_to.Goals as goal

pub returns-then-i-eq0 : goal.returns-then-i-eq0
returns-then-i-eq0 c = λ cut is. sym (ap (λ i. rows_to i cut) c.if-i-eq0.true ∙ none_before cut)

pub returns : goal.returns
returns c = λ cut is. start_agrees c.args.rows.now cut c.args.i (bound_view c.part.result) is c.if-i-eq0.false c.requires c.part.ensures
