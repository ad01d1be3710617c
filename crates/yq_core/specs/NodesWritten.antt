-- How nodes are written in flow style (YAML 1.2.2, section 7.4).
use Rattle.std.specs.Prelude.{ℕ, List, [], ◌∷◌, ◌++◌, Bool, true, false, Option, Some, None, if◌then◌else◌}
use Rattle.yq_core.{specs.declared.style.Style.Style, specs.declared.style.Place.Place, specs.Scalar.{ScalarText, string_of}}
use Rattle.yq_core.{specs.Writable.can_write, specs.Written.written_scalar}
use Rattle.yq_core.specs.Nodes.{Key, bare, keyed, Sep, last, comma, FlowNode, alias, scalar, coll, Items, none, item, node_text}
use Rattle.yq_core.specs.declared.style.Style.TheVariants as styles
use Rattle.yq_core.specs.declared.style.Place.TheVariants as places
use Rattle.yq_core.specs.Tree as tree

-- the style in which a scalar is written there: plain if this can write it, else double-quoted (own)
abbrev pub written_style : ScalarText → Place → Style
written_style s place = if can_write s styles.Plain place then styles.Plain else styles.Double

-- the scalar written so (own)
unfoldable pub scalar_text : ScalarText → Place → List ℕ
scalar_text s place = written_scalar (written_style s place) s.text

-- the key of an entry, written as a string, with `:` and a space; an item has none (own)
abbrev pub flow_key : Option (List ℕ) → Key
flow_key None = bare
flow_key (Some k) = keyed (scalar_text (string_of k) places.FlowKey) [] (32 ∷ [])

-- a comma and a space, if items follow (own)
abbrev pub flow_sep : tree.Children → Sep
flow_sep tree.none = last []
flow_sep (tree.child label n cs) = comma [] (32 ∷ [])

unfoldable mutual
  -- a node in flow style, without its anchor: `[a, b]`, `{k: v}` (YAML 1.2.2, section 7.4; own)
  pub flow_of : tree.Node → FlowNode
  flow_of (tree.alias n) = alias n
  flow_of (tree.scalar a kind text) = scalar (scalar_text (record { kind = kind; text = text }) places.Flow)
  flow_of (tree.list a cs) = coll 93 [] (flow_items cs)
  flow_of (tree.map a cs) = coll 125 [] (flow_items cs)

  -- its items or entries (YAML 1.2.2, section 7.4; own)
  pub flow_items : tree.Children → Items
  flow_items tree.none = none
  flow_items (tree.child label n cs) = item (flow_key label.key) (flow_of n) (flow_sep cs) (flow_items cs)

-- the text of a node in flow style (YAML 1.2.2, section 7.4; own)
abbrev pub flow_text : tree.Node → List ℕ
flow_text n = node_text (flow_of n) []

-- a key with its `:` and a space (YAML 1.2.2, section 7.4.2; own)
abbrev pub key_front : List ℕ → List ℕ
key_front k = scalar_text (string_of k) places.FlowKey ++ 58 ∷ 32 ∷ []

-- texts with a comma and a space between them; first says that nothing comes before them (YAML 1.2.2, section 7.4; own)
abbrev pub comma_separated : Bool → List (List ℕ) → List ℕ
comma_separated first [] = []
comma_separated true (x ∷ xs) = x ++ comma_separated false xs
comma_separated false (x ∷ xs) = 44 ∷ 32 ∷ (x ++ comma_separated false xs)

-- the text of an entry (YAML 1.2.2, section 7.4.2; own)
abbrev pub entry_text : List ℕ × tree.Node → List ℕ
entry_text e = key_front e.0 ++ flow_text e.1
