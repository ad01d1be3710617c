use Rattle.std.proofs.Common.{sym, ap, ◌∙◌}
use Rattle.yq_core.{specs.Scalars.is_quoted, proofs.OneLine.kept}
use Rattle.yq_row_heads.proofs.content.content_of.Goals as goal

pub returns : goal.returns
returns c = kept c.args.piece.now (ap is_quoted (sym c.as_bytes.ensures.value) ∙ (sym c.is_quoted.ensures ∙ c.if-is_quoted.false)) (sym c.holds_break.ensures ∙ c.if-holds_break.false)
