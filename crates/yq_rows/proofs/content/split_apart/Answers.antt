use Rattle.std.proofs.Common.{sym, ap, ◌∙◌}
use Rattle.yq_core.specs.Nodes.{begins_with}
use Rattle.yq_row_table.proofs.BlockSlicing.{apart_none, apart_some}
use Rattle.yq_rows.proofs.content.split_apart.Goals as goal

pub returns-then-not-first_is : goal.returns-then-not-first_is
returns-then-not-first_is c = apart_none c.args.text.now (ap (begins_with 38) (sym c.as_bytes.ensures.value) ∙ (sym c.first_is.ensures ∙ c.if-not-first_is.true))

pub returns : goal.returns
returns c = apart_some c.args.text.now _ _ _ _ (ap (begins_with 38) (sym c.as_bytes.ensures.value) ∙ (sym c.first_is.ensures ∙ c.if-not-first_is.false)) c.split_anchor.ensures c.split_white.ensures
