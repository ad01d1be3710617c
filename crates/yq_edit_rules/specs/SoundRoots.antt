-- What the operations leave of what is asked of a document's root (own).
use Rattle.std.specs.Prelude.{◌≡◌, ℕ, suc, ◌+◌, ◌≤◌, List, [], ◌∷◌, length, Option, Some, None, ⊤}
use Rattle.yq_core.specs.Keys.{HasUniqueKeys, depth, keys_of}
use Rattle.yq_core.specs.Paths.{Step, append_child, changed_at, child_at, node_at, relabel_child, remove_child, within}
use Rattle.yq_core.{specs.Tree.{Label, Node, alias, scalar, list, map, children_of}, specs.Inline.depth_limit}
use Rattle.yq_core.specs.Anchors.{Name, Refers, names_of, names_in, IsAmong, AreBound}
use Rattle.yq_edit_rules.specs.Conditions.{AreSpared}
use Rattle.yq_documents.specs.TreeEdits.{replaced_node}

-- What is asked of the root of a document: no key twice, not too deep, and each alias bound (3.2.1.3, 7.1; own).
pub record IsSoundRoot (root : Node) : Type 0 where
  pub unique : HasUniqueKeys root
  pub nested : depth root ≤ depth_limit
  pub bound : AreBound [] (names_of root)

-- a key is none of these; an item has no key
abbrev pub IsNewKey : Option (List ℕ) → List (List ℕ) → Type 0
IsNewKey None keys = ⊤
IsNewKey (Some k) keys = IsAmong k keys → ⊥

-- the anchors and aliases of a node without its own anchor
abbrev pub inner_names : Node → List Name
inner_names (alias name) = Refers name ∷ []
inner_names (scalar a kind text) = []
inner_names (list a cs) = names_in cs
inner_names (map a cs) = names_in cs

-- A value that may come into a tree: without anchors and aliases, with no key twice, and not too deep for a path of this length.
pub record IsNewValue (v : Node) (above : ℕ) : Type 0 where
  pub bare : names_of v ≡ []
  pub unique : HasUniqueKeys v
  pub nested : above + depth v ≤ depth_limit

-- A value may be in the place of a node of a root, for a path of this length: no anchor that goes with that node has an alias.
pub record MayReplace (v old root : Node) (above : ℕ) : Type 0 where
  pub value_is : IsNewValue v above
  pub spared : AreSpared (inner_names old) [] (names_of root)

-- A root stays as is asked where a node is replaced by one without anchors and aliases, and no anchor below the old one has an alias.
abbrev pub ReplaceKeeps : Type 0
ReplaceKeeps =
    (steps : List Step) (root old v : Node) → IsSoundRoot root → node_at steps root ≡ Some old → MayReplace v old root (length steps) →
    IsSoundRoot (changed_at steps (replaced_node v) root)

-- It stays so with one item or entry more, of a new key.
abbrev pub AppendKeeps : Type 0
AppendKeeps =
    (steps : List Step) (root old v : Node) (l : Label) → IsSoundRoot root → node_at steps root ≡ Some old → IsNewValue v (suc (length steps)) →
    IsNewKey l.key (keys_of (children_of old)) →
    IsSoundRoot (changed_at steps (within (append_child l v)) root)

-- It stays so without an item or entry in which no anchor has an alias.
abbrev pub RemoveKeeps : Type 0
RemoveKeeps =
    (steps : List Step) (root old x : Node) (s : Step) → IsSoundRoot root → node_at steps root ≡ Some old → child_at s (children_of old) ≡ Some x →
    AreSpared (names_of x) [] (names_of root) → IsSoundRoot (changed_at steps (within (remove_child s)) root)

-- It stays so with other comments of an item or entry.
abbrev pub RelabelKeeps : Type 0
RelabelKeeps =
    (steps : List Step) (root old : Node) (s : Step) (g : Label → Label) → IsSoundRoot root → node_at steps root ≡ Some old →
    ((l : Label) → (g l).key ≡ l.key) →
    IsSoundRoot (changed_at steps (within (relabel_child s g)) root)
