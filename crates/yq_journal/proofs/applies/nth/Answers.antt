use Rattle.std.{proofs.Common.{ap₂, rules}, proofs.lemmas.Option.slice_get_read}
use Rattle.yq_journal.proofs.MatchingLaws.{flipped_at}
use Rattle.yq_journal.proofs.applies.nth.Goals as goal

pub returns-then-turned : goal.returns-then-turned
returns-then-turned c = search (rules, flipped_at, slice_get_read, ap₂)

pub returns-else-turned : goal.returns-else-turned
returns-else-turned c = search (rules, slice_get_read, ap₂)
