use Rattle.std.proofs.Common.{◌≡◌}
use Rattle.yq_outline.{specs.Bodies.borrowed, specs.Outline.{anchored, value}}
use Rattle.yq_nodes.{specs.Bodies.body_outline, specs.Children.lines_left}
use Rattle.yq_nodes.proofs.nodes.node_lines.lines_node.Given as goal

-- what the lines mean is what those from here on do
abbrev pub invariant-bare : goal.invariant-bare
invariant-bare l = anchored (borrowed l.anchor) (value (body_outline l.these)) ≡ anchored (borrowed l.fn.before) (value (body_outline l.fn.under))

abbrev pub decreases-bare : goal.decreases-bare
decreases-bare l = lines_left l.these
