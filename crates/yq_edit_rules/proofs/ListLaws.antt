-- Items and entries that are written one after the other.
use Rattle.std.proofs.Common.{◌≡◌, ℕ, ◌+◌, Bool, true, false, not, eqb, List, [], ◌∷◌, ◌++◌, length, map, Option, Some, None, refl, sym, ap}
use Rattle.std.{proofs.Common.{◌∙◌, append_assoc, append-nil, replicate, String, string_bytes, arith, rules}, proofs.lemmas.Bool.ne_eqb}
use Rattle.std.{proofs.lemmas.List.length-map, specs.declared.alloc.Global.Global, specs.Option.is_none, specs.Prelude.{Vec, nat_eq}}
use Rattle.std.specs.Vec.{vec_len}
use Rattle.yq_core.{specs.BlockWritten.break_text, specs.declared.value.Value.Value, specs.Nodes.node_text}
use Rattle.yq_core.{specs.Values.{value_node, field_of, items, entries}, proofs.NodesWrittenLaws.{node_list, node_map, map_twice}}
use Rattle.yq_edit_rules.specs.Alone.{singleton}
use Rattle.yq_edit_rules.specs.BlockReading.{block_front, block_item, block_list, block_map, block_pair, is_filled, break_and_indent}
use Rattle.yq_edit_rules.{specs.BlockReading.separated_texts, specs.BlockRows.{indent_step, inline_of, item_column}}
use Rattle.yq_edit_rules.specs.BlockText.{block_children, block_entry, block_node, block_value, inline_or, then_lines}
use Rattle.yq_edit_rules.specs.declared.layout.Layout.{Layout}
use Rattle.yq_core.specs.Tree as tree
use Rattle.yq_core.specs.declared.value.Value.TheVariants as values
use Rattle.yq_core.specs.Nodes as inline

abbrev Entry : Type 0
Entry = String Global × Value

-- one item, and one entry
item_is : (l : Layout) (below : ℕ) (node : Option inline.FlowNode) (t : List ℕ) → block_entry l below None node t ≡ 45 ∷ 32 ∷ inline_or node t
item_is l below node t = search rules

pair_is : (l : Layout) (below : ℕ) (k : List ℕ) (node : Option inline.FlowNode) (t : List ℕ) → block_entry l below (Some k) node t ≡ block_front l below k (is_none node) ++ inline_or node t
pair_is l below k node t = search (rules, append_assoc)

-- those after it
then_items : (l : Layout) (column : ℕ) (vs : List tree.Node) → then_lines l column (items vs) (block_children l column (items vs)) ≡ separated_texts (break_and_indent l column) false (map (block_item l column) vs)
unfolding block_children
then_items l column [] = refl
then_items l column (v ∷ vs) =
    let at : ℕ = item_column column in
    ap (λ (x : List ℕ). break_text l.br ++ (replicate column 32 ++ x)) (λ i. item_is l at (inline_of v) (block_node l at v) i ++ then_items l column vs i)
    ∙ sym (append_assoc (break_text l.br) (replicate column 32) (block_item l column v ++ separated_texts (break_and_indent l column) false (map (block_item l column) vs)))

then_entries : (l : Layout) (column : ℕ) (es : List (List ℕ × tree.Node)) → then_lines l column (entries es) (block_children l column (entries es)) ≡ separated_texts (break_and_indent l column) false (map (block_pair l column) es)
unfolding block_children
then_entries l column [] = refl
then_entries l column (e ∷ es) =
    let at : ℕ = column + indent_step l e.1 in
    ap (λ (x : List ℕ). break_text l.br ++ (replicate column 32 ++ x)) (λ i. pair_is l at e.0 (inline_of e.1) (block_node l at e.1) i ++ then_entries l column es i)
    ∙ sym (append_assoc (break_text l.br) (replicate column 32) (block_pair l column e ++ separated_texts (break_and_indent l column) false (map (block_pair l column) es)))

-- the text of a sequence, and of a mapping
list_is : (l : Layout) (column : ℕ) (vs : List tree.Node) → block_value l column (tree.list None (items vs)) ≡ block_list l column vs
unfolding block_node block_children node_text inline.flow_items_text
list_is l column vs = search (rules, item_is, then_items)

map_is : (l : Layout) (column : ℕ) (es : List (List ℕ × tree.Node)) → block_value l column (tree.map None (entries es)) ≡ block_map l column es
unfolding block_node block_children node_text inline.flow_items_text
map_is l column es = search (rules, pair_is, then_entries)

-- the code's values
pub map_node : (v : Vec Entry Global) → value_node (values.Map v) ≡ tree.map None (entries (map field_of v.items))
map_node v = simp (string_bytes, node_map, map_twice)

pub list_value : (l : Layout) (column : ℕ) (v : Vec Value Global) → block_value l column (value_node (values.List v)) ≡ block_list l column (map value_node v.items)
list_value l column v = ap (block_value l column) (node_list v) ∙ list_is l column (map value_node v.items)

pub map_value : (l : Layout) (column : ℕ) (v : Vec Entry Global) → block_value l column (value_node (values.Map v)) ≡ block_map l column (map field_of v.items)
map_value l column v = ap (block_value l column) (map_node v) ∙ map_is l column (map field_of v.items)

-- whether it is written in rows
is_some : {A : Type 0} (x : A) (xs : List A) → not (nat_eq (length (x ∷ xs)) 0) ≡ true
is_some x xs = ap not (ne_eqb (length (x ∷ xs)) 0 (λ e. omega (arith, e)))

list_block : (vs : List tree.Node) → is_filled (tree.list None (items vs)) ≡ not (nat_eq (length vs) 0)
list_block [] = refl
list_block (v ∷ vs) = sym (is_some v vs)

map_block : (es : List (List ℕ × tree.Node)) → is_filled (tree.map None (entries es)) ≡ not (nat_eq (length es) 0)
map_block [] = refl
map_block (e ∷ es) = sym (is_some e es)

pub list_agrees : (v : Vec Value Global) (empty : Bool) → empty ≡ eqb (vec_len v) 0 → not empty ≡ is_filled (value_node (values.List v))
list_agrees v empty h = search (rules, length-map, list_block, node_list)

pub map_agrees : (v : Vec Entry Global) (empty : Bool) → empty ≡ eqb (vec_len v) 0 → not empty ≡ is_filled (value_node (values.Map v))
map_agrees v empty h = search (rules, length-map, map_block, map_node)

-- a collection of one item, or of one entry
pub item_alone : (l : Layout) (column : ℕ) (v : tree.Node) → block_value l column (singleton None v) ≡ block_item l column v
item_alone l column v = list_is l column (v ∷ []) ∙ append-nil (block_item l column v)

pub pair_alone : (l : Layout) (column : ℕ) (k : List ℕ) (v : tree.Node) → block_value l column (singleton (Some k) v) ≡ block_pair l column (k, v)
pair_alone l column k v = map_is l column ((k, v) ∷ []) ∙ append-nil (block_pair l column (k, v))
