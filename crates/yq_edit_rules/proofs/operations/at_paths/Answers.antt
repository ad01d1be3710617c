use Rattle.yq_edit_rules.proofs.PathLaws.{path_is_entry, path_line_commented, path_head_commented}
use Rattle.yq_edit_rules.proofs.operations.at_paths.Goals as goal

pub returns-clause-entry : goal.returns-clause-entry
returns-clause-entry c = path_is_entry

pub returns-clause-line : goal.returns-clause-line
returns-clause-line c = path_line_commented

pub returns-clause-head : goal.returns-clause-head
returns-clause-head c = path_head_commented
