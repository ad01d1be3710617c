-- Texts that spell what is put into flow collections.
use Rattle.std.{specs.Prelude.{◌≡◌, ℕ, ◌≤◌, true, false, List, ◌++◌, Some}, specs.Str.IsUtf8}
use Rattle.yq_core.{specs.Characters.is_text, specs.Keys.depth, specs.Plain.holds_break, specs.Scalar.ScalarText, specs.Alike.EndsItem}
use Rattle.yq_core.{specs.Nodes.{Key, FlowNode, scalar, key_text, node_text, is_close}, specs.Trees.{key_content, tree_of}}
use Rattle.yq_flow_edits.specs.FlowEdits.{FitsItem, FitsNode}
use Rattle.yq_core.specs.Tree as tree
use Rattle.yq_core.specs.Scalars as scalars

-- A text spells an entry of a flow mapping: before what comes after an entry, and where so many collections may be nested, it is the text of one
-- with that key, whose node means the tree (YAML 1.2.2, section 7.4.2).
pub record SpellsEntry (k : List ℕ) (v : tree.Node) (t : List ℕ) : Type 0 where
  pub key : Key
  pub node : FlowNode
  pub written : (rest : List ℕ) → key_text key (node_text node rest) ≡ t ++ rest
  pub is_located : (d : ℕ) (rest : List ℕ) → depth v ≤ d → EndsItem 125 rest → FitsItem d 125 key node rest
  pub same_key : key_content key ≡ Some k
  pub same : tree_of node ≡ v

-- A text spells a scalar in flow collections: it means the scalar, is one line of a text, and may be put before what comes after an item or
-- entry (YAML 1.2.2, section 7.3).
pub record SpellsInFlow (s : ScalarText) (p : List ℕ) : Type 0 where
  pub same : scalars.scalar_of p ≡ s
  pub utf8 : IsUtf8 p
  pub text : is_text p ≡ true
  pub line : holds_break p ≡ false
  pub fits : (k d : ℕ) (rest : List ℕ) → is_close k ≡ true → EndsItem k rest → FitsNode d (scalar p) rest
