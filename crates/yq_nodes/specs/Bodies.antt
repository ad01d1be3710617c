-- What nodes of the code mean.
use Rattle.std.specs.Prelude.{None}
use Rattle.yq_core.{specs.Tree.{Node, alias, scalar, list, map}, specs.Trees.placed_tree}
use Rattle.yq_outline.{specs.Bodies.borrowed, specs.Ends.part, specs.Outline.{Outline, anchored, null_node, children}}
use Rattle.yq_documents.specs.Stretches.{document_lines, number_of}
use Rattle.yq_nodes.{specs.declared.nodes.under.Under.Under, specs.declared.nodes.body.Named.Named}
use Rattle.yq_core.specs.View as inline
use Rattle.yq_nodes.specs.declared.nodes.body.Body as bodies

-- the lines of a document from one on that are deeper than a level, as an outline (own)
abbrev pub body_outline : Under → Outline
body_outline u = part (document_lines u.document u.text.now) (number_of u.document u.text.now u.first) u.floor

-- what a node of the code means, but for the anchor before it (own)
abbrev pub body_node : bodies.Body → Node
body_node bodies.TheVariants.Null = null_node
body_node (bodies.TheVariants.Scalar kind text) = scalar None kind text.now
body_node (bodies.TheVariants.Map under) = map None (children (body_outline under))
body_node (bodies.TheVariants.List under) = list None (children (body_outline under))
body_node (bodies.TheVariants.Inline node) = placed_tree (inline.inline_view node.now)
body_node (bodies.TheVariants.Borrowed node) = placed_tree (inline.borrowed_view node)
body_node (bodies.TheVariants.Alias name) = alias name.now

-- the same with that anchor (own)
abbrev pub named_node : Named → Node
named_node n = anchored (borrowed n.anchor) (body_node n.body)
