use Rattle.yq_text.proofs.DraftLaws.{nothing_more}
use Rattle.yq_text.proofs.draft.push_text.Goals as goal

pub returns-then-is_empty : goal.returns-then-is_empty
returns-then-is_empty c = nothing_more _ c.args.more.now _ c.is_empty.ensures c.if-is_empty.true
