use Rattle.std.proofs.Common.{◌∙◌, rules}
use Rattle.yq_text.proofs.LoopLaws.{last_kept_goes, last_put_is}
use Rattle.yq_text.proofs.changing.to_last.Goals as goal

pub segments-preserved : goal.segments-preserved
segments-preserved c = search (rules, last_kept_goes)

pub returns-in-Put : goal.returns-in-Put
returns-in-Put c = last_put_is c.segments.rest.now c.segment-item.result _ c.in-len1-up.len_at_least c.segment-item.is c.in-Put.field-0 c.in-Put.field-1 c.in-Put.is ∙ c.segments.invariant.last
