-- How many items or entries there are (own).
use Rattle.std.specs.Prelude.{ℕ, suc}
use Rattle.yq_core.specs.Tree.{Children, none, child}

-- how many items or entries a node has
abbrev pub count : Children → ℕ
count none = 0
count (child label n cs) = suc (count cs)
