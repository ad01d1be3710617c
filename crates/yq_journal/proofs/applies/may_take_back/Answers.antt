use Rattle.std.{proofs.Common.rules, proofs.lemmas.Option.none-some}
use Rattle.yq_journal.proofs.MatchingLaws.{lengths_flip}
use Rattle.yq_journal.proofs.applies.may_take_back.Goals as goal

pub are_there-requires : goal.are_there-requires
are_there-requires c = search (rules, lengths_flip, none-some)
