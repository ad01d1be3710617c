use Rattle.std.proofs.Common.{◌≡◌, ◌+◌, ◌≤◌, length}
use Rattle.yq_core.specs.Trees.{parts_tree}
use Rattle.yq_inline.specs.BorrowedParts.{parts_view}
use Rattle.yq_outline.specs.Counts as spec
use Rattle.yq_nodes.proofs.nodes.count.count_parts.Given as goal

-- what is counted, and what is left, are all; each that is counted has a byte of its own
abbrev pub invariant-parts : goal.invariant-parts
invariant-parts l =
    (l.n + spec.count (parts_tree (parts_view l.rest)) ≡ spec.count (parts_tree (parts_view l.fn.parts)))
    × (l.n + length l.rest.text.now ≤ length l.fn.parts.text.now)

abbrev pub decreases-parts : goal.decreases-parts
decreases-parts l = length l.rest.text.now
