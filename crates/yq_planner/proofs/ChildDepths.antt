-- Fewer collections are nested in a child of a node than in the node.
use Rattle.std.proofs.Common.{◌≡◌, ◌+◌, ◌*◌, ◌≤◌, ◌<◌, ap, arith}
use Rattle.yq_core.{specs.Keys.{deepest, depth}, specs.Tree.{Children, Label, Node, alias, child, children_of, list, map, scalar}}
use Rattle.yq_outline.specs.Counts.{count}

pub child_depth : (n m : Node) (l : Label) (cs rest : Children) → cs ≡ child l m rest → count cs ≤ count (children_of n) → deepest cs ≤ deepest (children_of n) → 2 * depth m + 1 < 2 * depth n
child_depth (alias a) m l cs rest is counted deep = absurd (omega (arith, ap count is, counted))
child_depth (scalar a kind text) m l cs rest is counted deep = absurd (omega (arith, ap count is, counted))
child_depth (list a all) m l cs rest is counted deep = omega (arith, ap deepest is, deep)
child_depth (map a all) m l cs rest is counted deep = omega (arith, ap deepest is, deep)
