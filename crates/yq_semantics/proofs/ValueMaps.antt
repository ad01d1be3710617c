-- A mapping of values, as a node.
use Rattle.std.{proofs.Common.{◌≡◌, ℕ, List, [], ◌∷◌, refl, ap, ◌∙◌, rules, map, None}, specs.Prelude.{string_bytes, String, Vec}}
use Rattle.std.specs.declared.alloc.Global.{Global}
use Rattle.yq_core.{specs.Tree.Node, specs.declared.value.Value.{Value, Map as MapValue, the_lemmas}}
use Rattle.yq_core.specs.Values.{value_node, field_of, entries}
use Rattle.yq_core.specs.Tree as tree

-- a mapping as a node
-- an entry with its value seen as a node
abbrev value_view : String Global × Value → String Global × Node
value_view e = (e.0, value_node e.1)

abbrev key_view : String Global × Node → List ℕ × Node
key_view e = (string_bytes e.0, e.1)

fields_are : (es : List (String Global × Value)) → map key_view (map value_view es) ≡ map field_of es
fields_are [] = refl
fields_are (e ∷ es) = ap (λ (fs : List (List ℕ × Node)). field_of e ∷ fs) (fields_are es)

opened : (v : Vec (String Global × Value) Global) → value_node (MapValue v) ≡ tree.map None (entries (map key_view (map value_view v.items)))
opened v = search (rules, the_lemmas)

pub node_of-map : (v : Vec (String Global × Value) Global) → value_node (MapValue v) ≡ tree.map None (entries (map field_of v.items))
node_of-map v = opened v ∙ ap (λ (es : List (List ℕ × Node)). tree.map None (entries es)) (fields_are v.items)
