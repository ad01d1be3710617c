-- Where the bytes of an edit of a flow collection are in the text, by the places of the collection's parts.
use Rattle.std.specs.Option.{option_or}
use Rattle.std.specs.Prelude.{ℕ, ◌+◌, ◌-◌, Bool, ◌&&◌, List, [], ◌∷◌, ◌++◌, drop, length, nat_le, nat_lt, Option, Some, None, option_map}
use Rattle.std.specs.Prelude.{min, if◌then◌else◌}
use Rattle.yq_core.{specs.Paths.{Step, is_here, further}, specs.PlainText.begins_marker, specs.Text.{is_feed, front}}
use Rattle.yq_core.{specs.declared.gap.GapPlace.TheVariants.Token, specs.Entries.{content_place, end_of, entry_start, parts_of}}
use Rattle.yq_core.specs.Nodes.{begins_with}
use Rattle.yq_core.specs.Places.{Placed, placed, CoreNode, nothing, name, text, sequence, mapping, Parts, end, part}
use Rattle.yq_core.{specs.Reading.flow_gap_len, specs.Trees.unplaced_key, specs.Tree.key_label}
use Rattle.yq_flow_edits.{specs.declared.flow_place.EditPlace.EditPlace, specs.FlowEdits.FlowEdit}

-- where bytes that are replaced begin and end, and what takes their place before that which is written (own)
pub record PlacedEdit : Type 0 where
  pub start : ℕ
  pub end : ℕ
  pub lead : List ℕ

-- the place that one of the code shows (own)
abbrev pub edit_view : EditPlace → PlacedEdit
edit_view p = record { start = p.start; end = p.end; lead = p.lead.now }

-- where an edit changes a text so long (own)
abbrev pub place_edit : ℕ → FlowEdit → PlacedEdit
place_edit total e = record { start = total - length (e.old ++ e.after); end = total - length e.after; lead = e.lead }

-- in the place of a content, or where nothing is written after the node and a space (own)
abbrev pub replace_at : ℕ → Option (ℕ × ℕ) → PlacedEdit
replace_at e None = record { start = e; end = e; lead = 32 ∷ [] }
replace_at e (Some p) = record { start = p.0; end = p.1; lead = [] }

-- where another content of a node is written (own)
abbrev pub replace_place : Placed → PlacedEdit
replace_place p = replace_at (end_of p) (content_place p)

-- where the last item or entry ends, if there is one (own)
abbrev pub last_end : Parts → Option ℕ
last_end end = None
last_end (part key n end) = Some (end_of n)
last_end (part key n (part j m parts)) = last_end (part j m parts)

-- after the last item or entry and a comma, or at a place if there is none (own)
abbrev pub append_at : ℕ → Option ℕ → PlacedEdit
append_at at None = record { start = at; end = at; lead = [] }
append_at at (Some e) = record { start = e; end = e; lead = 44 ∷ (32 ∷ []) }

-- the same in a content from c to e: the first item or entry is written right after the opening bracket (own)
abbrev pub append_in : ℕ → ℕ → CoreNode → Option PlacedEdit
append_in c e nothing = None
append_in c e (name n) = None
append_in c e (text s piece) = None
append_in c e (sequence parts) = Some (append_at (min (c + 1) e) (last_end parts))
append_in c e (mapping parts) = Some (append_at (min (c + 1) e) (last_end parts))

-- where one more item or entry of a collection is written (own)
abbrev pub append_place : Placed → Option PlacedEdit
append_place (placed a s c e f) = append_in c e f

-- where the first item or entry begins, if there is one (own)
abbrev pub first_start : Parts → Option ℕ
first_start end = None
first_start (part key n parts) = Some (entry_start (key, n))

-- an LF comes before this place (own)
abbrev pub past_feed : List ℕ → ℕ → Bool
past_feed t at = nat_lt 0 at && front is_feed (drop (at - 1) t)

-- `---` or `...` ends at this place, begins in column 0, and not before that place (YAML 1.2.2, sections 9.1.2 and 9.1.3; own)
abbrev pub marks_before : List ℕ → ℕ → ℕ → Bool
marks_before t from at = nat_le 3 (at - from) && (past_feed t (at - 3) && begins_marker (drop (at - 3) t))

-- where the gap that begins at this place ends (own)
abbrev pub past_gap : List ℕ → ℕ → ℕ
past_gap t at = at + flow_gap_len Token (drop at t)

-- From the end of the item before, which begins at the first place, to that of the last one: a comma stays where the one before ends in `---` or
-- `...` in column 0 (own).
abbrev pub remove_end : List ℕ → ℕ → ℕ → ℕ → PlacedEdit
remove_end t from before e =
    if marks_before t from before then (
    if begins_with 44 (drop (past_gap t e) t) then record { start = before; end = past_gap t e; lead = [] }
    else record { start = before; end = e; lead = 44 ∷ [] }
    )
    else record { start = before; end = e; lead = [] }

-- a space, where a line begins at the one place and `---` or `...` at the other (own)
abbrev pub space_at : List ℕ → ℕ → ℕ → List ℕ
space_at t s n = if past_feed t s && begins_marker (drop n t) then 32 ∷ [] else []

-- from one place up to the next item or entry (own)
abbrev pub remove_before : List ℕ → ℕ → ℕ → PlacedEdit
remove_before t s n = record { start = s; end = n; lead = space_at t s n }

-- an item or entry from one place to another goes, by where the one before it begins and ends and where the one after it begins; nothing for a sole one
-- (own)
abbrev pub remove_between : List ℕ → Option (ℕ × ℕ) → ℕ → ℕ → Option ℕ → Option PlacedEdit
remove_between t o s e (Some n) = Some (remove_before t s n)
remove_between t None s e None = None
remove_between t (Some b) s e None = Some (remove_end t b.0 b.1 e)

-- where the item or entry at a step ends, if it is the only one (own)
abbrev pub only_end : Step → Parts → Option ℕ
only_end s end = None
only_end s (part key n end) = if is_here s (key_label (unplaced_key key)) then Some (end_of n) else None
only_end s (part key n (part j m parts)) = None

-- what goes with the item or entry at a step, among such parts; nothing for a sole one (own)
abbrev pub remove_part : List ℕ → Step → Parts → Option PlacedEdit
remove_part t s end = None
remove_part t s (part key n parts) =
    if is_here s (key_label (unplaced_key key)) then option_map (remove_before t (entry_start (key, n))) (first_start parts)
    else option_or (option_map (remove_end t (entry_start (key, n)) (end_of n)) (only_end (further s) parts)) (remove_part t (further s) parts)

-- what goes with the item or entry at a step of a collection in a text, and what takes its place (own)
abbrev pub remove_place : List ℕ → Step → Placed → Option PlacedEdit
remove_place t s p = remove_part t s (parts_of p)
