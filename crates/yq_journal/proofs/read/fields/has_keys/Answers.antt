use Rattle.std.proofs.Common.{◌==◌, ap, ◌∙◌}
use Rattle.yq_journal.proofs.JsonLaws.{counted}
use Rattle.yq_journal.proofs.read.fields.has_keys.Goals as goal

pub returns-in-Some : goal.returns-in-Some
returns-in-Some c = ap (λ n. n == c.args.count) c.len.ensures.len ∙ counted c.args.count c.in-Some.members.now.entries _ c.in-Some.ensures
