-- A changed text, given as a tree with the lead that goes with it (own).
use Rattle.std.specs.Prelude.{◌≡◌, List, [], ◌∷◌, ◌++◌}
use Rattle.yq_core.{specs.Paths.{Step, changed_at, within}, specs.Tree.{Node, Children}}
use Rattle.yq_documents.specs.TreeEdits.{at_end}

-- A change of the items or entries at the end of a path is a change of the node that holds them.
abbrev pub EndIsChange : Type 0
EndIsChange = (g : Step → Children → Children) (path : List Step) (s : Step) (n : Node) → at_end g (path ++ (s ∷ [])) n ≡ changed_at path (within (g s)) n
