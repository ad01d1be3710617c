-- Edits in flow collections: what is exchanged, by the part of the collection (YAML 1.2.2, 7.4; own).
use Rattle.std.specs.Prelude.{ℕ, ◌==◌, List, [], ◌∷◌, ◌++◌, Option, Some, None, is_some, option_map, Bool, not, if◌then◌else◌}
use Rattle.yq_core.{specs.Paths.Step, specs.Written.written_scalar, specs.declared.style.Place.TheVariants.Flow as InFlow}
use Rattle.yq_core.{specs.Collections.CollPieces, specs.Nodes.{FlowNode, alias, scalar, node_text, without_anchor}}
use Rattle.yq_core.{specs.Scalars.scalar_style, specs.NodesWritten.{flow_key, flow_of}}
use Rattle.yq_flow_edits.{specs.FlowEdits.{FlowEdit, appending, replacing}, specs.Removals.removing}
use Rattle.yq_places.specs.Placements.{FlowPart}
use Rattle.yq_text.specs.Script.{Segment, keep, put, script_text_before}
use Rattle.yq_edit_rules.specs.Style.{style_in}
use Rattle.yq_core.specs.Tree as tree

-- the segments of a text in which a flow collection is edited
abbrev pub flow_segments : List ℕ → FlowEdit → List Segment
flow_segments t e = keep (script_text_before t (e.old ++ e.after)) ∷ (put e.old e.lead ∷ (put [] e.written ∷ (keep e.after ∷ [])))

-- a value as an inline node in the place of a text: a scalar in the style of that, if this can write it in flow, else plain if it can be, else in double
-- quotes; a collection in flow style (7.4)
abbrev pub flow_value : List ℕ → tree.Node → FlowNode
flow_value old (tree.alias name) = alias name
flow_value old (tree.scalar anchor kind text) = scalar (written_scalar (style_in InFlow (record { kind = kind; text = text }) (scalar_style old)) text)
flow_value old (tree.list anchor cs) = flow_of (tree.list anchor cs)
flow_value old (tree.map anchor cs) = flow_of (tree.map anchor cs)

-- what is written of a node after its anchor
abbrev pub content_written : FlowNode → List ℕ
content_written n = node_text (without_anchor n) []

-- Replace: a value in flow style in the place of the content of an item or entry, after its anchor; where nothing is written it comes after a space (7.4)
abbrev pub flow_put : List ℕ → tree.Node → FlowPart → List Segment
flow_put t v x = flow_segments t (replacing x.step x.part (flow_value (content_written x.part.node) v) x.collection)

-- whether a collection with this closing bracket takes an entry of a key, or an item (7.4.1, 7.4.2)
abbrev pub takes_key : ℕ → Option (List ℕ) → Bool
takes_key close key = if close == 125 then is_some key else not (is_some key)

-- Append: a comma, a space, and the item or entry right after the last one; in an empty collection right after the bracket (7.4)
abbrev pub flow_more : List ℕ → Option (List ℕ) → tree.Node → CollPieces → Option (List Segment)
flow_more t key v w = if takes_key w.close key then Some (flow_segments t (appending (flow_key key) (flow_of v) w)) else None

-- Remove: an item or entry that isn't the sole one, with the comma and the white space that go with it (7.4)
abbrev pub flow_removed : List ℕ → Step → CollPieces → Option (List Segment)
flow_removed t s w = option_map (flow_segments t) (removing s w)
