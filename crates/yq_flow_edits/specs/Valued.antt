-- The trees that values mean, and the texts that spell them.
use Rattle.std.{specs.Prelude.{◌≡◌, ℕ, ◌+◌, ◌≤◌, Bool, true, false, List, ◌++◌, Option, Some, None, ⊤, ℤ}, specs.Str.IsUtf8}
use Rattle.yq_core.{specs.declared.style.Place.Place, specs.Characters.is_text, specs.Keys.depth, specs.Piece.further_spaces}
use Rattle.yq_core.{specs.Plain.{ends_plain, holds_break}, specs.Scalar.{ScalarText, IsScalar}, specs.Tree.key_label}
use Rattle.yq_core.{specs.Writable.in_flow, specs.Inline.{IsInline, depth_limit}, specs.Nodes.{FlowNode, node_text}, specs.Trees.tree_of}
use Rattle.yq_core.specs.Tree as tree
use Rattle.yq_core.specs.Scalars as scalars

-- a scalar's kind fits its text, which is UTF-8 (YAML 1.2.2, section 10.3.2)
pub record IsValid (s : ScalarText) : Type 0 where
  pub kind : IsScalar s.kind s.text
  pub utf8 : IsUtf8 s.text

-- the label of an entry whose key is UTF-8, or of an item, without comments (own)
abbrev pub IsLabel : Bool → tree.Label → Type 0
IsLabel true label = (k : List ℕ) × (label ≡ key_label (Some k)) × IsUtf8 k
IsLabel false label = label ≡ key_label None

abbrev mutual
  -- The tree of a value: no anchors, aliases and comments, and scalars whose kinds fit their texts (own).
  pub IsValueTree : tree.Node → Type 0
  IsValueTree (tree.alias n) = ⊥
  IsValueTree (tree.scalar anchor kind t) = (anchor ≡ None) × IsValid (record { kind = kind; text = t })
  IsValueTree (tree.list anchor cs) = (anchor ≡ None) × AreValueTrees false cs
  IsValueTree (tree.map anchor cs) = (anchor ≡ None) × AreValueTrees true cs

  -- entries or items with such labels and nodes (own)
  pub AreValueTrees : Bool → tree.Children → Type 0
  AreValueTrees keyed tree.none = ⊤
  AreValueTrees keyed (tree.child label n cs) = IsLabel keyed label × IsValueTree n × AreValueTrees keyed cs

-- A text spells a tree: before any rest at which a plain scalar ends, and where so many collections may be nested, it is the text of an inline
-- node that means the tree (YAML 1.2.2, sections 3.2.1, 7.3 and 7.4).
pub record Spells (v : tree.Node) (t : List ℕ) : Type 0 where
  pub node : FlowNode
  pub written : (rest : List ℕ) → node_text node rest ≡ t ++ rest
  pub is_located : (place : Place) (n : ℤ) (around : ℕ) (rest : List ℕ) → depth v + around ≤ depth_limit →
      ends_plain (in_flow place) (further_spaces place n) rest ≡ true → IsInline place n around node rest
  pub same : tree_of node ≡ v

-- A text spells a scalar outside flow collections: it means the scalar, is one line of a text, and is a scalar before any rest at which a plain
-- one ends (YAML 1.2.2, section 7.3).
pub record SpellsScalar (s : ScalarText) (p : List ℕ) : Type 0 where
  pub same : scalars.scalar_of p ≡ s
  pub utf8 : IsUtf8 p
  pub text : is_text p ≡ true
  pub line : holds_break p ≡ false
  pub is_located : (spaces : Option ℕ) (rest : List ℕ) → ends_plain false spaces rest ≡ true → scalars.IsScalarAt false spaces p rest
