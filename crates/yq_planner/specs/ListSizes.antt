-- How large lists are that sums give, as far as the code knows it (own).
use Rattle.std.specs.Prelude.{◌≡◌, ℕ, ◌≤◌, suc, min, false, None}
use Rattle.yq_core.{specs.Inline.depth_limit, specs.Keys.depth, specs.Paths.append_children}
use Rattle.yq_core.specs.Tree.{Label, Node, list, Children, none, child, key_label}
use Rattle.yq_semantics.{specs.Changes.has_long_key, specs.Sizes.items_in}
use Rattle.yq_planner.specs.declared.updating.list_size.ListSize.{ListSize}

-- A node is a list with items that has at least so many items and entries, and no key that is too long. It is nested as deep as the size says; where
-- that is the first depth that is too deep, it may be deeper (own).
pub record HasSize (v : Node) (size : ListSize) : Type 0 where
  pub label : Label
  pub first : Node
  pub others : Children
  pub is : v ≡ list None (child label first others)
  pub fit : has_long_key v ≡ false
  pub deep : size.depth ≡ min (suc depth_limit) (depth v)
  pub many : size.items ≤ items_in v

-- the size of a list of the items of two lists that have these sizes (own)
abbrev pub IsSizeOfBoth : (one other both : ListSize) → Type 0
IsSizeOfBoth one other both = (cs ds : Children) → HasSize (list None cs) one → HasSize (list None ds) other → HasSize (list None (append_children cs ds)) both

-- the size of a list of one item, in which so many collections are nested (own)
abbrev pub IsSizeAround : ℕ → ListSize → Type 0
IsSizeAround nested size = (v : Node) → has_long_key v ≡ false → nested ≡ min (suc depth_limit) (depth v) → HasSize (list None (child (key_label None) v none)) size
