-- Values: nodes without anchors and comments.
use Rattle.std.{specs.Prelude.{ℕ, List, [], ◌∷◌, map, Some, None, String, string_bytes}, specs.declared.alloc.Global.Global}
use Rattle.yq_core.{specs.Tree.{Label, Node, Children, plain_label}, specs.declared.value.Value.{Value, fold-Value}}
use Rattle.yq_core.specs.declared.value.Value.TheOpen.{Value-F}
use Rattle.yq_core.specs.Tree as tree

-- what is known of an entry of that key without comments (own)
abbrev pub entry : List ℕ → Label
entry k = record { key = Some k; head_comment = []; line_comment = None }

-- these nodes as items, in order (own)
abbrev pub items : List Node → Children
items [] = tree.none
items (n ∷ ns) = tree.child plain_label n (items ns)

-- these keys and nodes as entries, in order (own)
abbrev pub entries : List (List ℕ × Node) → Children
entries [] = tree.none
entries (e ∷ es) = tree.child (entry e.0) e.1 (entries es)

-- one level of a value, with each value inside already seen as its node (own)
abbrev pub value_step : Value-F Node → Node
value_step (Value-F.Scalar s) = tree.scalar None s.kind s.text
value_step (Value-F.List v) = tree.list None (items v.items)
value_step (Value-F.Map v) = tree.map None (entries (map (λ e. (string_bytes e.0, e.1)) v.items))

-- the node that a value of the code means (own)
abbrev pub value_node : Value → Node
value_node = fold-Value Node value_step

-- the key and the node that an entry of the code means (own)
abbrev pub field_of : String Global × Value → List ℕ × Node
field_of e = (string_bytes e.0, value_node e.1)

-- the items that values of the code mean (own)
abbrev pub items_of : List Value → Children
items_of vs = items (map value_node vs)

-- the entries that those of the code mean (own)
abbrev pub entries_of : List (String Global × Value) → Children
entries_of es = entries (map field_of es)
