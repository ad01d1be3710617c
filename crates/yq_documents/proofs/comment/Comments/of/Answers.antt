use Rattle.std.proofs.Common.{ap, ◌∙◌}
use Rattle.yq_core.specs.Text.{text_lines}
use Rattle.yq_documents.{specs.Texts.texts, proofs.RunLaws.run_texts}
use Rattle.yq_documents.proofs.comment.Comments.of.Goals as goal

pub returns : goal.returns
returns c = ap texts c.last_run.ensures ∙ run_texts (text_lines c.args.gap.now)
