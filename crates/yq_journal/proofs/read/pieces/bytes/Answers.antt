use Rattle.std.proofs.Common.{rules}
use Rattle.yq_journal.proofs.NumberLaws.{number_ends}
use Rattle.yq_journal.proofs.read.pieces.bytes.Goals as goal

pub returns-in-Some-clause-text : goal.returns-in-Some-clause-text
returns-in-Some-clause-text c = search (rules, number_ends)
