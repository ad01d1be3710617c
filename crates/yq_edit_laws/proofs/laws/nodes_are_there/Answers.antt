use Rattle.yq_edit_laws.proofs.PlacementExists.{entries_are_there, roots_are_there}
use Rattle.yq_edit_laws.proofs.laws.nodes_are_there.Goals as goal

pub returns-clause-roots : goal.returns-clause-roots
returns-clause-roots c = roots_are_there

pub returns-clause-entries : goal.returns-clause-entries
returns-clause-entries c = entries_are_there
