-- Where flow collections of a text are edited, by places in bytes (YAML 1.2.2, 7.4; own).
use Rattle.std.specs.Prelude.{ℕ, ◌+◌, ◌-◌, ◌≤◌, ◌<◌, ◌^◌, List, [], ◌∷◌, drop, length, take, Option, is_some, option_map, IfSome, Bool}
use Rattle.std.{specs.Prelude.{false, not, if◌then◌else◌}, specs.Str.IsCharBoundary}
use Rattle.yq_core.{specs.Answers.◌>>=◌, specs.Paths.Step, specs.Tree.Node}
use Rattle.yq_core.specs.Places.{CoreNode, nothing, name, text, sequence, mapping, Placed, placed}
use Rattle.yq_flow_edits.specs.FlowPlaces.{PlacedEdit, remove_between}
use Rattle.yq_inline.specs.Neighbours.{PartTexts, PartsAround}
use Rattle.yq_row_table.specs.Rows.{Cut, cut_text}
use Rattle.yq_documents.{specs.Located.steps_of, specs.declared.path.Path.Path}
use Rattle.yq_places.{specs.FlowNodes.flow_collection, specs.Placements.last_step}
use Rattle.yq_lookup.{specs.RowFronts.IsFoundNode, specs.declared.node_at.FoundNode.FoundNode}
use Rattle.yq_text.specs.Script.{Segment, keep, put}
use Rattle.yq_edit_rules.specs.FlowParts.{flow_more}

-- the segments of a text in which the bytes at a place are replaced by what leads there and to a text that is written
abbrev pub edit_segments : List ℕ → PlacedEdit → List ℕ → List Segment
edit_segments t p written =
    keep (take p.start t) ∷ (put (drop p.start (take p.end t)) p.lead ∷ (put [] written ∷ (keep (drop p.end t) ∷ [])))

-- an edit of a part of a text, before which so many bytes of the text are, as one of the text
abbrev pub moved_on : ℕ → PlacedEdit → PlacedEdit
moved_on n p = record { start = n + p.start; end = n + p.end; lead = p.lead }

-- where one more item or entry is written, by whether there is another one, and where the last one ends, or the bracket if there is none
abbrev pub end_place : Bool → ℕ → PlacedEdit
end_place some at = record { start = at; end = at; lead = if some then 44 ∷ (32 ∷ []) else [] }

-- where an item or entry begins and ends in a text so long
abbrev pub placed_ends : ℕ → PartTexts → ℕ × ℕ
placed_ends total e = (total - length e.0, total - length e.1)

-- what goes with an item or entry of a text, by those next to it
abbrev pub remove_around : List ℕ → PartsAround → Option PlacedEdit
remove_around t x =
    let total = length t in
    let here = placed_ends total x.here in
    remove_between t (option_map (placed_ends total) x.before) here.0 here.1
    (option_map (λ (l : List ℕ). total - length l) x.next)

-- A place lies in a text, between characters.
pub record LiesIn (t : List ℕ) (p : PlacedEdit) : Type 0 where
  pub small : length t < 2 ^ 64
  pub order : p.start ≤ p.end
  pub start : IsCharBoundary t p.start
  pub end : IsCharBoundary t p.end

-- `takes_key` by whether a collection is a mapping (7.4.1, 7.4.2)
abbrev pub keyed_takes : Bool → Option (List ℕ) → Bool
keyed_takes keyed key = if keyed then is_some key else not (is_some key)

-- `takes_key` by the view with places: whether a content takes an entry of a key, or an item (7.4.1, 7.4.2)
abbrev pub content_takes : CoreNode → Option (List ℕ) → Bool
content_takes nothing key = false
content_takes (name n) key = false
content_takes (text s piece) key = false
content_takes (sequence parts) key = not (is_some key)
content_takes (mapping parts) key = is_some key

-- `takes_key` by the view with places, of a node with its anchor
abbrev pub placed_takes : Placed → Option (List ℕ) → Bool
placed_takes (placed anchor start content end form) key = content_takes form key

-- one more item or entry in the flow collection to which steps lead in document n
abbrev pub appended_in_flow : ℕ → List Step → Option (List ℕ) → Node → Cut → Option (List Segment)
appended_in_flow n steps key v c = flow_collection n steps c >>= flow_more (cut_text c) key v

-- The code finds this node above the last step of a path of a text.
abbrev pub IsFoundAbove : List ℕ → Path → FoundNode → Type 0
IsFoundAbove t path x = IfSome (last_step (steps_of path)) (λ s. IsFoundNode t path.doc s.0 x)
