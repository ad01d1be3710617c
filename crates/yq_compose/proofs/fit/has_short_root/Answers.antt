use Rattle.std.proofs.Common.{not, ap, ◌∙◌}
use Rattle.yq_row_table.specs.View.{row_view}
use Rattle.yq_compose.proofs.FitLaws.{short_some, short_none}
use Rattle.yq_compose.proofs.fit.has_short_root.Goals as goal

pub returns-then-document : goal.returns-then-document
returns-then-document c = λ h. short_none c.args.rows.now c.args.document c.if-document.true h

pub returns : goal.returns
returns c = λ h. ap not c.is_long.ensures ∙ short_some c.args.rows.now c.args.document (row_view c.row.result) c.row.ensures c.if-document.false h
