-- The places that those of the code mean.
use Rattle.std.{specs.Borrow.Bor, specs.Prelude.{List, [], ◌∷◌, ◌++◌, map, Option, Some, None, option_map}}
use Rattle.yq_core.specs.Paths.{To, Nth}
use Rattle.yq_nodes.specs.Nodes.{node_of}
use Rattle.yq_outline.specs.Outline.{null_node}
use Rattle.yq_eval.specs.declared.matching.place.NodePath.{NodePath, fold-NodePath}
use Rattle.yq_eval.specs.declared.matching.place.NodePath.TheOpen.{NodePath-F}
use Rattle.yq_eval.{specs.declared.matching.place.Missing.{Missing, fold-Missing}, specs.declared.matching.place.Missing.TheOpen.Missing-F}
use Rattle.yq_semantics.{specs.Judgement.{Judgement, and_then, gives}, specs.Matching.ChildFound, specs.Places.FoundPlace}
use Rattle.yq_semantics.{specs.Program.PathStep, specs.View.program_step}
use Rattle.yq_core.specs.Paths as paths
use Rattle.yq_core.specs.Tree as tree
use Rattle.yq_nodes.specs.declared.nodes.node.Node as nodes
use Rattle.yq_eval.specs.declared.matching.place.NodeStep as steps
use Rattle.yq_eval.specs.declared.matching.place.FoundPlace as declared

-- the step to a node that one of the code means (own)
abbrev pub node_step_of : steps.NodeStep → paths.Step
node_step_of (steps.TheVariants.Key k) = To k.now
node_step_of (steps.TheVariants.Index n) = Nth n

-- one link of a path, the path before it being seen already (own)
abbrev pub path_link : NodePath-F (List paths.Step) → List paths.Step
path_link NodePath-F.Root = []
path_link (NodePath-F.Below front last) = front.now ++ node_step_of last ∷ []

-- the path that one of the code means (own)
abbrev pub path_of : NodePath → List paths.Step
path_of = fold-NodePath (List paths.Step) path_link

-- one link of steps that are missing, those before it being seen already (own)
abbrev pub missing_link : Missing-F (List PathStep) → List PathStep
missing_link Missing-F.Nothing = []
missing_link (Missing-F.Further front last) = front.now ++ program_step last.now ∷ []

-- the missing steps that those of the code mean (own)
abbrev pub missing_of : Missing → List PathStep
missing_of = fold-Missing (List PathStep) missing_link

-- the place that one of the code means (own)
abbrev pub place_of : declared.FoundPlace → FoundPlace
place_of p = record { path = path_of p.path; node = node_of p.node; missing = missing_of p.missing }

-- the places that those of the code mean (own)
abbrev pub places_of : List declared.FoundPlace → List FoundPlace
places_of ps = map place_of ps

-- the node that one of the code means, or null where there is none (own)
abbrev pub node_or_null : Option (Bor nodes.Node) → tree.Node
node_or_null None = null_node
node_or_null (Some n) = node_of n.now

-- the item or entry that one of the code means, with the step that leads to it (own)
abbrev pub found_of : Option (steps.NodeStep × nodes.Node) → ChildFound
found_of x = option_map (λ c. (node_step_of c.0, node_of c.1)) x

-- what comes of something, put after what is there (own)
abbrev pub put_after : {A : Type 0} → List A → Judgement (List A) → Judgement (List A)
put_after before j = and_then (λ xs. gives (before ++ xs)) j
