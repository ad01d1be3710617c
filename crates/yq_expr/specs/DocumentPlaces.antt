-- A document with its root, and places in it.
use Rattle.yq_core.specs.Shapes.{IsTree}
use Rattle.yq_nodes.specs.Nodes.{node_of}
use Rattle.yq_eval.{specs.FoundView.found_places, specs.TreeScalars.{HasScalars, HaveScalars}}
use Rattle.yq_semantics.specs.PlacesApart.{AreIn}
use Rattle.yq_expr.{specs.declared.plans.document.DocumentPlaces.DocumentPlaces, specs.declared.plans.document.DocumentRoot.DocumentRoot}

-- a document's root is a tree, whose scalars have the kinds of their texts (own)
pub record IsDocumentRoot (d : DocumentRoot) : Type 0 where
  pub scalars : HasScalars (node_of d.root)
  pub tree : IsTree (node_of d.root)

-- places are in a document's tree, whose scalars have the kinds of their texts (own)
pub record AreInDocument (ps : DocumentPlaces) : Type 0 where
  pub root : HasScalars (node_of ps.document.root)
  pub scalars : HaveScalars (found_places ps.places)
  pub within : AreIn (node_of ps.document.root) (found_places ps.places)
