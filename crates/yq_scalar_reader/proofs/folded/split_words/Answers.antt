use Rattle.std.proofs.Common.{rules}
use Rattle.yq_scalar_reader.proofs.ContentRuns.{leading_words}
use Rattle.yq_scalar_reader.proofs.folded.split_words.Goals as goal

pub returns-in-Some-clause-value : goal.returns-in-Some-clause-value
returns-in-Some-clause-value c = search (rules, leading_words)
