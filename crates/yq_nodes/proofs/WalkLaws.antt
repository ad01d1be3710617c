-- Nodes of the code where steps lead.
use Rattle.std.proofs.Common.{◌≡◌, ℕ, ◌+◌, ◌<◌, List, ◌∷◌, length, drop, get_or, map, Option, Some, None, option_map, option_and_then, refl}
use Rattle.std.{proofs.Common.{sym, ap, ◌∙◌}, proofs.lemmas.List.drop_more}
use Rattle.yq_core.{specs.Entries.tree_step, specs.Paths.{Step, child_at, node_at}, specs.Tree.{Node, children_of}}
use Rattle.yq_outline.{specs.Labelled.{Labelled, labelled_at, labelled_from}, proofs.Finding.{labelled_child, labelled_path}}
use Rattle.yq_nodes.specs.Nodes.{node_of, labelled_of}
use Rattle.yq_core.specs.declared.path.Step as step
use Rattle.yq_nodes.specs.declared.nodes.node.Node as declared

-- the node of one of the code that is given with its label
nodes : (r : Option declared.Node) → option_map node_of r ≡ option_map (λ x. x.1) (option_map labelled_of r)
nodes None = refl
nodes (Some n) = refl

pub child_node : (s : Step) (n : Node) (r : Option declared.Node) → option_map labelled_of r ≡ labelled_at s (children_of n) → option_map node_of r ≡ child_at s (children_of n)
child_node s n r e = nodes r ∙ (ap (option_map (λ x. x.1)) e ∙ labelled_child s (children_of n))

pub path_node : (ss : List Step) (x : Labelled) (r : Option declared.Node) → option_map labelled_of r ≡ labelled_from ss x → option_map node_of r ≡ node_at ss x.1
path_node ss x r e = nodes r ∙ (ap (option_map (λ y. y.1)) e ∙ labelled_path ss x)

-- one step on a path
pub path_next : (items : List step.Step) (at : ℕ) (item : step.Step) (whole : Option Labelled) (x : Labelled) → at < length items → item ≡ get_or items at item → whole ≡ labelled_from (map tree_step (drop at items)) x →
    whole ≡ option_and_then (labelled_from (map tree_step (drop (at + 1) items))) (labelled_at (tree_step item) (children_of x.1))
path_next items at item whole x lt is so_far = so_far ∙ ap (λ ss. labelled_from (map tree_step ss) x) (drop_more items at item lt ∙ ap (λ i. i ∷ drop (at + 1) items) (sym is))
