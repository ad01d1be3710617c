-- Where steps lead in a tree: the item or entry there, which is a node with its label.
use Rattle.std.specs.Prelude.{List, [], ◌∷◌, Option, Some, None, option_and_then, if◌then◌else◌}
use Rattle.yq_core.{specs.Paths.{Step, is_here, further}, specs.Tree.{Label, Node, Children, none, child, children_of}}

-- an item or entry, or a root: what is known of it, and its node (own)
abbrev pub Labelled : Type 0
Labelled = Label × Node

-- the item or entry that a step leads to (own)
abbrev pub labelled_at : Step → Children → Option Labelled
labelled_at s none = None
labelled_at s (child label n cs) = if is_here s label then Some (label, n) else labelled_at (further s) cs

-- the one to which steps lead from a node with its label (own)
abbrev pub labelled_from : List Step → Labelled → Option Labelled
labelled_from [] x = Some x
labelled_from (s ∷ ss) x = option_and_then (labelled_from ss) (labelled_at s (children_of x.1))
