use Rattle.std.proofs.Common.{◌≡◌, ◌+◌, ◌≤◌}
use Rattle.yq_nodes.specs.Children.{lines_left, lines_rest, rest_of}
use Rattle.yq_outline.specs.Counts as spec
use Rattle.yq_nodes.proofs.nodes.count.count_lines.Given as goal

-- what is counted, and what is left, are all; each that is counted has a row of its own
abbrev pub invariant-lines : goal.invariant-lines
invariant-lines l =
    (l.count + spec.count (rest_of (lines_rest l.rest)) ≡ spec.count (rest_of (lines_rest l.fn.under)))
    × (l.count ≤ l.rest.first.row)

abbrev pub decreases-lines : goal.decreases-lines
decreases-lines l = lines_left l.rest
