-- The changes that those of the code mean.
use Rattle.std.specs.Prelude.{List, [], ◌∷◌, map, Option, Some, None, option_map, string_bytes}
use Rattle.yq_core.{specs.Entries.tree_step, specs.Paths.Step, specs.Values.value_node}
use Rattle.yq_semantics.specs.Places.{FoundPlace}
use Rattle.yq_semantics.specs.Changes.{Addition, appends, overwrites, Change, replaces, adds, removes, sets_comment, Changed}
use Rattle.yq_semantics.specs.Under.{change_under}
use Rattle.yq_planner.specs.declared.updating.change.Addition as addition
use Rattle.yq_planner.specs.declared.updating.change.Change as change
use Rattle.yq_planner.specs.declared.updating.change.PlacedChange as changed
use Rattle.yq_planner.specs.declared.updating.change.ChangesUnder as under

-- the addition that one of the code means (own)
abbrev pub addition_of : addition.Addition → Addition
addition_of (addition.TheVariants.Appends k v) = appends (option_map string_bytes k) (value_node v)
addition_of (addition.TheVariants.Overwrites k v) = overwrites (string_bytes k) (value_node v)

-- the change that one of the code means (own)
abbrev pub change_of : change.Change → Change
change_of (change.TheVariants.Replaces v) = replaces (value_node v)
change_of (change.TheVariants.Adds xs) = adds (map addition_of xs.items)
change_of change.TheVariants.Removes = removes
change_of (change.TheVariants.SetsComment place text) = sets_comment place (string_bytes text)

-- the same with its path (own)
abbrev pub changed_of : changed.PlacedChange → Changed
changed_of c = (map tree_step c.path.items, change_of c.change)

-- those that changes mean whose paths begin at the node to which these steps lead (own)
abbrev pub changes_below : List Step → List changed.PlacedChange → List Changed
changes_below front cs = map (change_under front) (map changed_of cs)

-- those that changes at and below a node mean (own)
abbrev pub changes_under : under.ChangesUnder → List Changed
changes_under x = changes_below (map tree_step x.front.items) x.changes.items

-- the changes of each document (own)
abbrev pub all_changes_under : List under.ChangesUnder → List (List Changed)
all_changes_under xs = map changes_under xs

-- a change at a place (own)
abbrev pub placed_change : FoundPlace → change.Change → List Changed
placed_change p c = (p.path, change_of c) ∷ []

-- the same, if there is one (own)
abbrev pub placed : FoundPlace → Option change.Change → List Changed
placed p None = []
placed p (Some c) = placed_change p c
