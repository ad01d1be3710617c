-- The places that what a pipe finds means.
use Rattle.std.specs.Prelude.{List, [], map}
use Rattle.yq_core.specs.Tree.{Node, children_of}
use Rattle.yq_nodes.specs.Nodes.{node_of}
use Rattle.yq_eval.specs.PlaceView.{path_of, places_of}
use Rattle.yq_semantics.specs.Places.{FoundPlace, child_place, stepped}
use Rattle.yq_core.specs.Paths as paths
use Rattle.yq_eval.specs.declared.matching.found.FoundPlaces as found

-- the place of the node at a path (own)
abbrev pub place_at_path : List paths.Step → Node → FoundPlace
place_at_path x n = record { path = x; node = n; missing = [] }

-- the places of all items or values of the node at a path (own)
abbrev pub child_places : List paths.Step → Node → List FoundPlace
child_places x n = map (child_place (place_at_path x n)) (stepped 0 (children_of n))

-- the places that those of the code mean (own)
abbrev pub found_places : found.FoundPlaces → List FoundPlace
found_places (found.TheVariants.Listed ps) = places_of ps.items
found_places (found.TheVariants.Children p) = child_places (path_of p.now.path) (node_of p.now.node)
