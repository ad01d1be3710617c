-- What goes from a flow collection (YAML 1.2.2, 7.4; own).
use Rattle.std.specs.Prelude.{ℕ, false, List, Option}
use Rattle.yq_core.specs.Paths.{Nth, Step, To}
use Rattle.yq_text.specs.Script.{Segment}
use Rattle.yq_documents.{specs.Located.steps_of, specs.Reading.cut_of, specs.declared.path.Path.Path}
use Rattle.yq_places.{specs.Placements.last_step, specs.NodesAt.{NodeAt, list, map}}
use Rattle.yq_edit_rules.specs.Edits.{part_removed}

-- the item or entry at a path
abbrev pub removed_at : List ℕ → Path → Option (List Segment)
removed_at t path = part_removed path.doc (cut_of t) (last_step (steps_of path))

-- what is known of a flow collection in which the only item or entry is at this step: entries alone have keys (7.4.1, 7.4.2)
abbrev pub sole_kind : Step → NodeAt
sole_kind (To k) = map false
sole_kind (Nth n) = list false
