use Rattle.std.proofs.Common.{rules, sym, ◌∙◌}
use Rattle.yq_core.proofs.BlockSteps.{at_cut, at_end}
use Rattle.yq_places.proofs.RemovalPlaceLaws.{none_held}
use Rattle.yq_places.proofs.places.removal_place.holds_comment.Goals as goal

pub returns-then-not-is_blank : goal.returns-then-not-is_blank
returns-then-not-is_blank c = search (rules, at_cut _ _ _ _ c.is_empty.ensures c.lines-test.true c.split_line.ensures)

pub lines-smaller : goal.lines-smaller
lines-smaller c = (at_cut _ _ _ _ c.is_empty.ensures c.lines-test.true c.split_line.ensures).1

pub lines-preserved : goal.lines-preserved
lines-preserved c = search (rules, at_cut _ _ _ _ c.is_empty.ensures c.lines-test.true c.split_line.ensures)

pub returns : goal.returns
returns c = sym (c.lines.invariant.so_far ∙ none_held c.lines.rest.now (at_end _ _ c.is_empty.ensures c.lines-test.false))
