-- What is asked of a value and of its place, so that it can be written in block style.
use Rattle.std.{specs.Prelude.{◌≡◌, ℕ, suc, ◌+◌, ◌*◌, ◌≤◌, List, ◌++◌, true, false, Option, Some, None, ⊤, length}, specs.Str.chars}
use Rattle.yq_core.{specs.Keys.{HasUniqueKeys, depth}, specs.Plain.ends_plain, specs.Tree.Children, specs.Inline.depth_limit}
use Rattle.yq_core.specs.FitKeys.{key_limit}
use Rattle.yq_flow_edits.specs.Valued.{IsValueTree}
use Rattle.yq_row_table.specs.Grammar.{IsTail}
use Rattle.yq_edit_rules.specs.BlockRows.{block_key}
use Rattle.yq_core.specs.Tree as tree

-- a sequence or a mapping (YAML 1.2.2, section 3.2.1.1)
abbrev pub IsCollection : tree.Node → Type 0
IsCollection (tree.alias name) = ⊥
IsCollection (tree.scalar a kind text) = ⊥
IsCollection (tree.list a cs) = ⊤
IsCollection (tree.map a cs) = ⊤

-- a collection with an item or entry, which is written in rows (own)
abbrev pub IsFilled : tree.Node → Type 0
IsFilled (tree.alias name) = ⊥
IsFilled (tree.scalar a kind text) = ⊥
IsFilled (tree.list a tree.none) = ⊥
IsFilled (tree.list a (tree.child label n cs)) = ⊤
IsFilled (tree.map a tree.none) = ⊥
IsFilled (tree.map a (tree.child label n cs)) = ⊤

-- The tree of a value that is written in rows (own).
pub record IsFilledValue (v : tree.Node) : Type 0 where
  pub filled : IsFilled v
  pub value : IsValueTree v

-- a key, if there is one, that isn't too long as it is written (YAML 1.2.2, section 8.2.2)
abbrev pub IsNear : Option (List ℕ) → Type 0
IsNear None = ⊤
IsNear (Some k) = length (chars (block_key k)) ≤ key_limit

abbrev mutual
  -- no key of a node is too long as it is written (YAML 1.2.2, section 8.2.2)
  pub HasNearKeys : tree.Node → Type 0
  HasNearKeys (tree.alias name) = ⊤
  HasNearKeys (tree.scalar a kind text) = ⊤
  HasNearKeys (tree.list a cs) = EachHasNearKeys cs
  HasNearKeys (tree.map a cs) = EachHasNearKeys cs

  -- the same of its items or entries (own)
  pub EachHasNearKeys : Children → Type 0
  EachHasNearKeys tree.none = ⊤
  EachHasNearKeys (tree.child label n cs) = IsNear label.key × HasNearKeys n × EachHasNearKeys cs

-- What may come after rows at a column: the end of the last line, before a rest with which no plain scalar deeper than that column goes on
-- (YAML 1.2.2, sections 6.6 and 7.3.3; own).
pub record IsEnd (column : ℕ) (end rest : List ℕ) : Type 0 where
  pub tail : IsTail end rest
  pub plain : ends_plain false (Some (suc column)) (end ++ rest) ≡ true

-- A value can be written in rows, of which the last one has that end before a rest, and none is less deep than a column (own).
pub record IsWritable (v : tree.Node) (column : ℕ) (end rest : List ℕ) : Type 0 where
  pub rows : IsFilledValue v
  pub near : HasNearKeys v
  pub ends : IsEnd column end rest

-- A collection that can be the root of a document: no key is too long as it is written, or twice in a mapping, and no more than 64 collections are nested
-- (YAML 1.2.2, sections 3.2.1.3 and 8.2.2; own).
pub record MayBeRoot (v : tree.Node) : Type 0 where
  pub collection : IsCollection v
  pub near : HasNearKeys v
  pub unique : HasUniqueKeys v
  pub nested : depth v ≤ depth_limit

-- how far the lines of a collection at a column are indented (own)
abbrev pub level_at : ℕ → tree.Node → ℕ
level_at column (tree.alias name) = 3 * column + 1
level_at column (tree.scalar a kind text) = 3 * column + 1
level_at column (tree.list a cs) = 3 * column + 3
level_at column (tree.map a cs) = 3 * column + 2

-- how far the line of an entry, or item, at a column is indented (own)
abbrev pub entry_level : Option (List ℕ) → ℕ → ℕ
entry_level (Some k) column = 3 * column + 2
entry_level None column = 3 * column + 3
