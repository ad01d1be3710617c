use Rattle.std.proofs.Common.{rules, length, ap, ◌∙◌}
use Rattle.yq_core.proofs.FaultPlaceLaws.{line_counted}
use Rattle.yq_core.proofs.fault_place.fault_at.Goals as goal

pub returns-clause-place : goal.returns-clause-place
returns-clause-place c = record {
  place = search rules;
  line = λ small. line_counted c.args.text.now c.split_at.result.0.now c.min-at.result c.count-feeds.result _ c.split_at.ensures.front (c.count-feeds.ensures ∙ ap length c.memchr_iter.ensures.value) c.saturating_add.ensures small;
}
