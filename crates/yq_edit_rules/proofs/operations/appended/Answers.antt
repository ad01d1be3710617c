use Rattle.yq_edit_rules.{proofs.AppendLaws.block_appended, proofs.EndLaws.end_of_text_appended}
use Rattle.yq_edit_rules.proofs.operations.appended.Goals as goal

pub returns-clause-inside : goal.returns-clause-inside
returns-clause-inside c = block_appended

pub returns-clause-last : goal.returns-clause-last
returns-clause-last c = end_of_text_appended
