use Rattle.std.proofs.Common.{subst}
use Rattle.yq_core.proofs.BlockSteps.{at_end}
use Rattle.yq_history.{specs.Hunks.EndsInFeed, proofs.LineCuts.{cut_back, cut_after, cut_front}}
use Rattle.yq_history.proofs.diff.lines.split_lines.Goals as goal

pub returns-then-is_empty : goal.returns-then-is_empty
returns-then-is_empty c = cut_front _ _ _ _ c.in_ok-before.ensures.front c.in_ok-before.ensures.back (at_end _ _ c.is_empty.ensures c.if-is_empty.true)

pub returns-then-is_empty-2 : goal.returns-then-is_empty-2
returns-then-is_empty-2 c = cut_back _ _ _ _ c.in_ok-before.ensures.front c.in_ok-before.ensures.back (at_end _ _ c.is_empty-2.ensures c.if-is_empty-2.true)

pub returns-then-ends_in_feed : goal.returns-then-ends_in_feed
returns-then-ends_in_feed c = cut_after _ _ _ _ c.in_ok-before.ensures.front c.in_ok-before.ensures.back (subst EndsInFeed c.as_bytes.ensures.value (c.ends_in_feed.ensures c.if-ends_in_feed.true))
