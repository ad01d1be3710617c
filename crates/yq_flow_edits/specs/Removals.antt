-- Edits of a flow collection: an item or entry is taken out.
use Rattle.std.specs.Option.{option_or}
use Rattle.std.specs.Prelude.{◌≡◌, ℕ, Bool, false, ◌||◌, ◌&&◌, ◌==◌, List, [], ◌∷◌, ◌++◌, Option, Some, None, option_map, if◌then◌else◌}
use Rattle.yq_core.{specs.Paths.{Step, is_here, further}, specs.PlainText.begins_marker, specs.Text.{is_feed, is_return, front, separates}}
use Rattle.yq_core.{specs.Alike.fresh, specs.Collections.CollPieces}
use Rattle.yq_core.specs.Nodes.{Key, FlowNode, Sep, last, comma, Items, none, item, key_text, sep_text, node_text, flow_items_text}
use Rattle.yq_core.{specs.Trees.key_content, specs.Tree.key_label}
use Rattle.yq_flow_edits.specs.FlowEdits.{FlowEdit}

-- the text is `---` or `...` (YAML 1.2.2, sections 9.1.2 and 9.1.3)
abbrev pub is_marks : List ℕ → Bool
is_marks (a ∷ b ∷ c ∷ []) = (a == 45 && b == 45 && c == 45) || (a == 46 && b == 46 && c == 46)
is_marks _ = false

-- `---` or `...` in column 0 ends the text; the Bool says whether a line begins before it (own)
abbrev pub ends_marked : Bool → List ℕ → Bool
ends_marked line [] = false
ends_marked line (b ∷ p) = (line && is_marks (b ∷ p)) || ends_marked (is_feed b) p

-- the text ends in a CR (own)
abbrev pub ends_return : List ℕ → Bool
ends_return [] = false
ends_return (b ∷ []) = is_return b
ends_return (b ∷ c ∷ p) = ends_return (c ∷ p)

-- Before this text another one may end so: neither becomes its end a document marker, nor part of a break (own).
pub record IsApartFrom (line : Bool) (p u : List ℕ) : Type 0 where
  pub unmarked : (ends_marked line p && separates u) ≡ false
  pub unbroken : (ends_return p && front is_feed u) ≡ false

-- a space between a gap and an item that ends up after it, if the gap ends a line and the item begins with `---` or `...` (own)
abbrev pub space_to : List ℕ → List ℕ → List ℕ
space_to g t = if fresh false g && begins_marker t then 32 ∷ [] else []

-- the gap with that space (own)
abbrev pub gap_to : List ℕ → List ℕ → List ℕ
gap_to g t = g ++ space_to g t

-- what comes after an item with another gap after its comma (own)
abbrev pub with_gap : List ℕ → Sep → Sep
with_gap g (last b) = last (b ++ g)
with_gap g (comma b h) = comma b g

-- the gap after an item's comma (own)
abbrev pub gap_of : Sep → List ℕ
gap_of (last b) = []
gap_of (comma b g) = g

-- An edit of what comes after an item is one of the items from that one on (own).
abbrev pub edit_from_item : List ℕ → Key → FlowNode → Sep → FlowEdit → FlowEdit
edit_from_item g key n sep e = record { gap = g; items = item key n (with_gap e.gap sep) e.items; old = e.old; lead = e.lead; written = e.written; after = e.after }

-- an item after a gap goes up to the next one; nothing, if none follows it (own)
abbrev pub before_next : ℕ → List ℕ → List ℕ → Key → FlowNode → Sep → Items → Option FlowEdit
before_next k rest g key n sep none = None
before_next k rest g key n sep (item key2 n2 sep2 is) =
    let next = key_text key2 (node_text n2 []) in
    Some (record {
      gap = gap_to g next;
      items = item key2 n2 sep2 is;
      old = key_text key (node_text n (sep_text sep []));
      lead = space_to g next;
      written = [];
      after = flow_items_text k (item key2 n2 sep2 is) rest;
    })

-- the text from the end of an item to that of the next one (own)
abbrev pub next_text : Sep → Key → FlowNode → List ℕ
next_text sep key n = sep_text sep (key_text key (node_text n []))

-- the last item goes from the end of the one before to its own (own)
abbrev pub last_gone : ℕ → List ℕ → List ℕ → Key → FlowNode → Sep → Key → FlowNode → Sep → FlowEdit
last_gone k rest g key n sep key2 n2 sep2 =
    record { gap = g; items = item key n sep2 none; old = next_text sep key2 n2; lead = []; written = []; after = sep_text sep2 (k ∷ rest) }

-- the last item goes up to the comma after it, or a comma comes in its place if there is none (own)
abbrev pub comma_left : ℕ → List ℕ → List ℕ → Key → FlowNode → Sep → Key → FlowNode → Sep → FlowEdit
comma_left k rest g key n sep key2 n2 (last b) =
    record { gap = g; items = item key n (comma [] b) none; old = next_text sep key2 n2; lead = 44 ∷ []; written = []; after = b ++ (k ∷ rest) }
comma_left k rest g key n sep key2 n2 (comma b h) =
    record { gap = g; items = item key n (comma [] h) none; old = next_text sep key2 n2 ++ b; lead = []; written = []; after = 44 ∷ (h ++ (k ∷ rest)) }

-- The last one: a comma stays after an item that ends in `---` or `...` in column 0, which would else become a document marker (own).
abbrev pub last_removed : ℕ → List ℕ → List ℕ → Key → FlowNode → Sep → Key → FlowNode → Sep → FlowEdit
last_removed k rest g key n sep key2 n2 sep2 =
    if ends_marked (fresh false g)
    (key_text key (node_text n [])) then comma_left k rest g key n sep key2 n2 sep2 else last_gone k rest g key n sep key2 n2 sep2

-- the item that follows another one goes, if a step leads to it and it is the last one (own)
abbrev pub last_out : ℕ → List ℕ → Step → List ℕ → Key → FlowNode → Sep → Items → Option FlowEdit
last_out k rest s g key n sep none = None
last_out k rest s g key n sep (item key2 n2 sep2 none) = if is_here s (key_label (key_content key2)) then Some (last_removed k rest g key n sep key2 n2 sep2) else None
last_out k rest s g key n sep (item key2 n2 sep2 (item key3 n3 sep3 is)) = None

-- the item at a step is taken out of the items after a gap; nothing for a sole one (own)
abbrev pub removing_from : ℕ → List ℕ → Step → List ℕ → Items → Option FlowEdit
removing_from k rest s g none = None
removing_from k rest s g (item key n sep is) =
    if is_here s (key_label (key_content key)) then before_next k rest g key n sep is
    else option_or (last_out k rest (further s) g key n sep is) (option_map (edit_from_item g key n sep) (removing_from k rest (further s) (gap_of sep) is))

-- the item or entry at a step of a collection is taken out, if it isn't the sole one (own)
abbrev pub removing : Step → CollPieces → Option FlowEdit
removing s c = removing_from c.close c.rest s c.gap c.items
