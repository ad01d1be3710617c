use Rattle.yq_edit_rules.proofs.ReadLaws.{value_read}
use Rattle.yq_edit_rules.proofs.laws.block_read.Goals as goal

pub returns : goal.returns
returns c = λ v l step h. value_read v l step h
