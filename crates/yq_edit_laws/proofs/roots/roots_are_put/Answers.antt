use Rattle.yq_edit_laws.proofs.RootEditLaws.{roots_are_put, first_nodes_are_put}
use Rattle.yq_edit_laws.proofs.roots.roots_are_put.Goals as goal

pub returns-clause-block : goal.returns-clause-block
returns-clause-block c = roots_are_put

pub returns-clause-first : goal.returns-clause-first
returns-clause-first c = first_nodes_are_put
