-- Reading (own; you may skip it): the anchors and aliases of the code.
use Rattle.std.specs.Prelude.{◌≡◌, ◌<◌, ℕ, List, [], map, Option, Some, None, slice_get}
use Rattle.yq_core.{specs.Places.Placed, specs.Trees.placed_tree, specs.Anchors.{Name, Anchors, Refers, names_of}}
use Rattle.yq_compose.specs.declared.names.Name as declared

-- the name that one of the code shows (own)
abbrev pub name_view : declared.Name → Name
name_view (declared.TheVariants.Anchors a) = Anchors a.now
name_view (declared.TheVariants.Refers a byte) = Refers a.now

-- the names that those of the code show, in order (own)
abbrev pub all_named : List declared.Name → List Name
all_named ns = map name_view ns

-- the names in an alias or flow collection, if there is one (own)
abbrev pub flow_names : Option Placed → List Name
flow_names None = []
flow_names (Some p) = names_of (placed_tree p)

-- an anchor of that name comes before a place (own)
abbrev pub HasAnchorBefore : List Name → ℕ → List ℕ → Type 0
HasAnchorBefore ns at a = (i : ℕ) × (i < at) × (slice_get ns i ≡ Some (Anchors a))
