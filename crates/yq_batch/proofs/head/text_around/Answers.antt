use Rattle.yq_text.specs.Halves.{whole}
use Rattle.yq_edit_laws.proofs.FlowAnswers.{whole_text}
use Rattle.yq_batch.proofs.head.text_around.Goals as goal

pub returns : goal.returns
returns c = whole_text c.args.at.now.cut.now (whole c.text.result) c.text.ensures.read c.text.ensures.text
