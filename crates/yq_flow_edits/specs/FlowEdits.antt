-- Edits of a flow collection: a node in the place of another one, and one more item or entry.
use Rattle.std.specs.Prelude.{◌≡◌, ℕ, Bool, true, false, not, ◌||◌, List, [], ◌∷◌, ◌++◌, Some, if◌then◌else◌}
use Rattle.yq_core.{specs.Paths.{Step, is_here, further}, specs.Text.is_marker, specs.Tree.{anchor_of, key_label}}
use Rattle.yq_core.{specs.Collections.{CollPieces, CollAt, collection_put}, specs.Entries.EntryPieces, specs.Inline.IsInline}
use Rattle.yq_core.specs.Nodes.{Key, bare, keyed, last, comma, FlowNode, empty, alias, scalar, coll, anchored, Items, none, item, key_text}
use Rattle.yq_core.specs.Nodes.{sep_text, node_text, is_empty_node, takes_anchor, is_keyed, IsInlineKey, IsFlowNode, without_anchor}
use Rattle.yq_core.specs.Trees.{with_anchor_name, key_content, tree_of}
use Rattle.yq_core.specs.Tree as tree

-- In a text the bytes `old` are replaced by `new`; after them is `behind` (own).
pub record Becomes (t u old new after : List ℕ) : Type 0 where
  pub before : List ℕ
  pub was : t ≡ before ++ (old ++ after)
  pub is : u ≡ before ++ (new ++ after)

-- An edit of a collection: the gap and the items that then come after its bracket, and the bytes `old` before `behind`, which are replaced by `lead`
-- and `written` (own).
pub record FlowEdit : Type 0 where
  pub gap : List ℕ
  pub items : Items
  pub old : List ℕ
  pub lead : List ℕ
  pub written : List ℕ
  pub after : List ℕ

-- the node with the edited collection in it (own)
abbrev pub edited_node : CollAt → FlowEdit → FlowNode
edited_node x e = collection_put x.steps e.gap e.items x.node

-- What the edit of a collection leads to: the edited node is in the old one's place before the same rest, its text differs in the bytes of the
-- edit alone, and its tree is the changed one (own).
pub record IsFlowEdited (x : CollAt) (e : FlowEdit) (changed : tree.Node → tree.Node) : Type 0 where
  pub inline : IsInline x.place x.indent x.around (edited_node x e) x.rest
  pub text : Becomes (node_text x.node x.rest) (node_text (edited_node x e) x.rest) e.old (e.lead ++ e.written) e.after
  pub tree : tree_of (edited_node x e) ≡ changed (tree_of x.node)

-- a space, where nothing is written (own)
abbrev pub space_for : FlowNode → List ℕ
space_for node = if is_empty_node node then 32 ∷ [] else []

-- the key with a space after its `:` (own)
abbrev pub spaced_key : Key → Key
spaced_key bare = bare
spaced_key (keyed p b g) = keyed p b (32 ∷ [])

-- the gap between an anchor and another node: a space, where nothing was written after the anchor (own)
abbrev pub gap_for : FlowNode → List ℕ → List ℕ
gap_for node gap = if is_empty_node node then 32 ∷ [] else gap

-- the key and node of an item whose content is another node, after the same anchor (own)
abbrev pub put_content : FlowNode → Key → FlowNode → Key × FlowNode
put_content m key empty = (spaced_key key, m)
put_content m key (alias n) = (key, m)
put_content m key (scalar p) = (key, m)
put_content m key (coll k gap is) = (key, m)
put_content m key (anchored n gap node) = (key, anchored n (gap_for node gap) m)

-- the items with another content in the one at a step (own)
abbrev pub put_item : Step → FlowNode → Items → Items
put_item s m none = none
put_item s m (item key n sep is) =
    if is_here s (key_label (key_content key)) then item (put_content m key n).0 (put_content m key n).1 sep is else item key n sep (put_item (further s) m is)

-- the content of the item or entry at a step is replaced by a node (own)
abbrev pub replacing : Step → EntryPieces → FlowNode → CollPieces → FlowEdit
replacing s y m c = record {
  gap = c.gap;
  items = put_item s m c.items;
  old = node_text (without_anchor y.node) [];
  lead = space_for (without_anchor y.node);
  written = node_text m [];
  after = y.rest;
}

-- a node in the place of another one, whose anchor stays (own)
abbrev pub put_value : tree.Node → tree.Node → tree.Node
put_value v old = with_anchor_name (anchor_of old) v

-- A node that may be put after an anchor or a gap: it is something, has no anchor, and doesn't begin with a document marker (own).
pub record FitsNode (d : ℕ) (m : FlowNode) (rest : List ℕ) : Type 0 where
  pub is : IsFlowNode true (Some 0) d m rest
  pub some : is_empty_node m ≡ false
  pub takes : takes_anchor m ≡ true
  pub unmarked : is_marker (node_text m rest) ≡ false

-- there is no item (own)
abbrev pub is_none : Items → Bool
is_none none = true
is_none (item key n sep is) = false

-- the items with one more: after the last one, which a comma and a space follow, or else the first one, before the gap (own)
abbrev pub add_item : Key → FlowNode → List ℕ → Items → Items
add_item key m gap none = item key m (last gap) none
add_item key m gap (item j n sep none) = item j n (comma [] (32 ∷ [])) (item key m sep none)
add_item key m gap (item j n sep (item j2 n2 sep2 is)) = item j n sep (add_item key m gap (item j2 n2 sep2 is))

-- what comes after the last item, or after the opening bracket if there is none (own)
abbrev pub after_last : ℕ → List ℕ → Items → List ℕ → List ℕ
after_last k gap none rest = gap ++ (k ∷ rest)
after_last k gap (item j n sep none) rest = sep_text sep (k ∷ rest)
after_last k gap (item j n sep (item j2 n2 sep2 is)) rest = after_last k gap (item j2 n2 sep2 is) rest

-- an item or entry that may come before a rest (YAML 1.2.2, section 7.4)
pub record FitsItem (d k : ℕ) (key : Key) (m : FlowNode) (rest : List ℕ) : Type 0 where
  pub key_is : IsInlineKey k key (node_text m rest)
  pub some : (is_keyed key || not (is_empty_node m)) ≡ true
  pub is : IsFlowNode true (Some 0) d m rest

-- what comes after one more item or entry (own)
abbrev pub after_appended : CollPieces → List ℕ
after_appended c = after_last c.close c.gap c.items c.rest

-- one more item or entry, after the last one and a comma, or right after the opening bracket (own)
abbrev pub appending : Key → FlowNode → CollPieces → FlowEdit
appending key m c = record {
  gap = if is_none c.items then [] else c.gap;
  items = add_item key m c.gap c.items;
  old = [];
  lead = if is_none c.items then [] else 44 ∷ (32 ∷ []);
  written = key_text key (node_text m []);
  after = after_appended c;
}
