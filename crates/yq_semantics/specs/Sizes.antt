-- How many items and entries are in nodes and documents; eight bytes of a scalar's text count as one (own).
use Rattle.std.specs.Prelude.{ℕ, suc, ◌+◌, ◌/◌, List, [], ◌∷◌, length}
use Rattle.yq_core.specs.Tree.{Node, alias, scalar, list, map, Children, none, child}
use Rattle.yq_documents.specs.Documents.{Document}

abbrev mutual
  -- how many items and entries are in a node, at any depth; in a scalar one for each eight bytes of its text (own)
  pub items_in : Node → ℕ
  items_in (alias name) = 0
  items_in (scalar anchor kind text) = length text / 8
  items_in (list anchor cs) = items_among cs
  items_in (map anchor cs) = items_among cs

  -- how many items or entries these are, with those in them (own)
  pub items_among : Children → ℕ
  items_among none = 0
  items_among (child label n cs) = suc (items_in n + items_among cs)

-- how many items and entries are in documents (own)
abbrev pub items_of_all : List Document → ℕ
items_of_all [] = 0
items_of_all (d ∷ ds) = items_in d.root + items_of_all ds
