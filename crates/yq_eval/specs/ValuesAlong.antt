-- Values to which steps lead one by one.
use Rattle.std.specs.Prelude.{◌≡◌, IfSome, List, Option, Some, None}
use Rattle.yq_nodes.specs.Nodes.{node_of}
use Rattle.yq_outline.specs.Outline.{null_node}
use Rattle.yq_semantics.{specs.Judgement.{Judgement, and_then, gives, refuses}, specs.Matching.{ChildFound, index_step, key_step}}
use Rattle.yq_semantics.{specs.Places.chained, specs.Program.{PathStep, key, index, each}}
use Rattle.yq_semantics.specs.declared.refusal.Refusal.TheVariants.{NotOneValue}
use Rattle.yq_core.specs.Tree as tree
use Rattle.yq_nodes.specs.declared.nodes.node.Node as nodes

-- the node that one of the code means, or null where there is none (own)
abbrev pub found_or_null : Option nodes.Node → tree.Node
found_or_null None = null_node
found_or_null (Some n) = node_of n

-- the node of a child that is found, or null where there is none (own)
abbrev pub child_or_null : ChildFound → tree.Node
child_or_null None = null_node
child_or_null (Some x) = x.1

-- the value to which a step leads from another one; `[]` leads to no one value (own)
abbrev pub leads_to_value : PathStep → tree.Node → Judgement tree.Node
leads_to_value (key k) n = and_then (λ x. gives (child_or_null x)) (key_step k n)
leads_to_value (index i) n = and_then (λ x. gives (child_or_null x)) (index_step i n)
leads_to_value each n = refuses NotOneValue

-- the value to which steps lead from another one, each in turn (own)
abbrev pub leads_to_values : List PathStep → tree.Node → Judgement tree.Node
leads_to_values steps n = chained leads_to_value steps n

-- where a value is known to which a step leads from another one, it is that (own)
abbrev pub KnowsValueAfter : Option (Option nodes.Node) → PathStep → tree.Node → Type 0
KnowsValueAfter o s n = IfSome o (λ v. leads_to_value s n ≡ gives (found_or_null v))

-- the same of steps (own)
abbrev pub KnowsValueAlong : Option (Option nodes.Node) → List PathStep → tree.Node → Type 0
KnowsValueAlong o steps n = IfSome o (λ v. leads_to_values steps n ≡ gives (found_or_null v))
