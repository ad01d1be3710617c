-- The texts and heads of the code, as those of lines.
use Rattle.std.specs.Prelude.{ℕ, List, Option, Some, None, string_bytes}
use Rattle.yq_core.{specs.Tree.{Node, scalar}, specs.Places.Placed, specs.Trees.placed_tree}
use Rattle.yq_core.specs.View as inline
use Rattle.yq_outline.specs.declared.line.ScalarContent as contents
use Rattle.yq_outline.specs.declared.line.Head as heads

-- the text of a key or scalar (own)
abbrev pub content_view : contents.ScalarContent → List ℕ
content_view (contents.TheVariants.Slice s) = s.now
content_view (contents.TheVariants.Own s) = string_bytes s

-- what its head spells, if it has one (own)
abbrev pub head_view : heads.Head → Option Node
head_view heads.TheVariants.Nothing = None
head_view (heads.TheVariants.Scalar kind text) = Some (scalar None kind (content_view text))
head_view (heads.TheVariants.Inline node) = Some (placed_tree (inline.inline_view node.value))

-- the alias or flow collection that a head is, with its places (own)
abbrev pub head_flow : heads.Head → Option Placed
head_flow heads.TheVariants.Nothing = None
head_flow (heads.TheVariants.Scalar kind t) = None
head_flow (heads.TheVariants.Inline node) = Some (inline.inline_view node.value)
