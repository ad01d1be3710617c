use Rattle.std.{proofs.Common.rules, proofs.lemmas.Option.none-some}
use Rattle.yq_journal.proofs.MatchingLaws.{lengths_flip}
use Rattle.yq_journal.proofs.record.undo_record.Goals as goal

pub spliced-requires : goal.spliced-requires
spliced-requires c = search (rules, none-some, lengths_flip)
