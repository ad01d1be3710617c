-- Reading (own; you may skip it): the aliases and flow collections in heads.
use Rattle.yq_core.{specs.Places.Placed, specs.View.{borrowed_view, inline_view}}
use Rattle.yq_documents.specs.Decoded.{alias_from}
use Rattle.yq_compose.specs.declared.nested.Flow as flows

-- the alias or flow collection that one of the code shows (own)
abbrev pub flow_view : flows.Flow → Placed
flow_view (flows.TheVariants.Owned node) = inline_view node.now
flow_view (flows.TheVariants.Borrowed node) = borrowed_view node
flow_view (flows.TheVariants.Alias n start) = alias_from n.now start
