-- The text of a value that is written on one line is that of its inline node.
use Rattle.std.proofs.Common.{◌≡◌, ℕ, ◌≤◌, true, false, List, [], Option, refl, append-nil, rules}
use Rattle.yq_core.{specs.Keys.depth, specs.Scalar.ScalarText, specs.Tree.Node, specs.Writable.can_write}
use Rattle.yq_core.{specs.Written.{written_scalar, IsOneLine}, specs.declared.style.Place.TheVariants.Block}
use Rattle.yq_core.{specs.declared.style.Style.Style, specs.Inline.depth_limit, specs.Nodes.node_text, specs.Scalars.scalar_style}
use Rattle.yq_core.specs.NodesWritten.{flow_of}
use Rattle.yq_flow_edits.specs.Valued.{IsValueTree}
use Rattle.yq_edit_rules.{specs.InlineRows.IsValueNode, specs.TextPieces.IsPiece, specs.Style.style_in, specs.WrittenValues.value_text}
use Rattle.yq_edit_rules.{proofs.StyleLaws.{style_writes, style_inline}, proofs.ValueNodes.{scalar_is, list_is, map_is, flow_piece}}
use Rattle.yq_semantics.specs.Changes.{has_long_key}
use Rattle.yq_core.specs.Tree as tree
use Rattle.yq_core.specs.Nodes as inline

-- A text that is written inline for a value, by its node.
pub record IsWrittenFor (v : Node) (t : List ℕ) : Type 0 where
  pub node : inline.FlowNode
  pub is : IsValueNode v node
  pub text : node_text node [] ≡ t
  pub piece : IsPiece t

pub style_line : (p : List ℕ) → IsOneLine (scalar_style p)
style_line p = search rules

pub scalar_for : (a : Option (List ℕ)) (s : ScalarText) (style : Style) → IsValueTree (tree.scalar a s.kind s.text) → IsOneLine style →
    can_write s style Block ≡ true → IsWrittenFor (tree.scalar a s.kind s.text) (written_scalar style s.text)
unfolding node_text
scalar_for a s style h i can = search (rules, scalar_is a s.kind s.text style h i can, append-nil)

-- in the place of any text
pub value_for : (old : List ℕ) (v : Node) → IsValueTree v → depth v ≤ depth_limit → has_long_key v ≡ false → IsWrittenFor v (value_text Block old v)
value_for old (tree.alias name) h deep long = absurd h
value_for old (tree.scalar a kind text) h deep long =
    let s : ScalarText = record { kind = kind; text = text } in
    scalar_for a s (style_in Block s (scalar_style old)) h (style_inline Block s (scalar_style old) (style_line old)) (style_writes Block s (scalar_style old))
value_for old (tree.list a cs) h deep long = record { node = flow_of (tree.list a cs); is = list_is a cs h deep long; text = refl; piece = flow_piece (tree.list a cs) h }
value_for old (tree.map a cs) h deep long = record { node = flow_of (tree.map a cs); is = map_is a cs h deep long; text = refl; piece = flow_piece (tree.map a cs) h }
