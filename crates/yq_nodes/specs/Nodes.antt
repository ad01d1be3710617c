-- The nodes of the code, as those of trees.
use Rattle.std.specs.Prelude.{List, [], ℕ}
use Rattle.yq_core.specs.Tree.{Label, Node, alias, scalar, list, map, key_label, plain_label}
use Rattle.yq_nodes.{specs.Bodies.named_node, specs.declared.nodes.node.NodeKind.NodeKind}
use Rattle.yq_nodes.specs.declared.nodes.node.WrittenLabel.{WrittenLabel}
use Rattle.yq_outline.{specs.Bodies.borrowed, specs.Labelled.Labelled}
use Rattle.yq_nodes.specs.declared.nodes.node.Node as declared
use Rattle.yq_nodes.specs.declared.nodes.node.NodeKind.TheVariants as kinds
use Rattle.yq_nodes.specs.declared.nodes.node.Slot as slots
use Rattle.yq_outline.specs.Comments as comments

-- the node that one of the code means (own)
abbrev pub node_of : declared.Node → Node
node_of n = named_node n.named

-- what is known of the entry or item of a line (own)
abbrev pub written_label : WrittenLabel → Label
written_label w = record { key = borrowed w.key; head_comment = comments.head_comment w.gap.now; line_comment = comments.line_comment w.tail.now }

-- what is known of what is in such a place (own)
abbrev pub slot_label : slots.Slot → Label
slot_label slots.TheVariants.Root = plain_label
slot_label (slots.TheVariants.Line w) = written_label w
slot_label (slots.TheVariants.Inline key) = key_label (borrowed key)

-- what is known of the entry or item of a node of the code (own)
abbrev pub label_of : declared.Node → Label
label_of n = slot_label n.slot

-- the node that one of the code means, with its label (own)
abbrev pub labelled_of : declared.Node → Labelled
labelled_of n = (label_of n, node_of n)

-- what a node is: an alias, a scalar of its kind, a sequence or a mapping (YAML 1.2.2, section 3.2.1)
abbrev pub kind_of : Node → NodeKind
kind_of (alias name) = kinds.Alias
kind_of (scalar anchor kind text) = kinds.Scalar kind
kind_of (list anchor cs) = kinds.List
kind_of (map anchor cs) = kinds.Map

-- the text of a scalar, or the name of an alias (own)
abbrev pub text_of : Node → List ℕ
text_of (alias name) = name
text_of (scalar anchor kind text) = text
text_of (list anchor cs) = []
text_of (map anchor cs) = []
