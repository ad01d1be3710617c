use Rattle.std.proofs.Common.{rules}
use Rattle.yq_edit_laws.proofs.FlowAnswers.{whole_text}
use Rattle.yq_edit_laws.proofs.edit.unchanged.Goals as goal

pub returns : goal.returns
returns c = search (rules, c.new.ensures, whole_text, c.text.ensures.read)
