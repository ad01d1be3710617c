use Rattle.std.proofs.Common.{rules}
use Rattle.yq_scalar_reader.proofs.ContentRuns.{nothing_added}
use Rattle.yq_scalar_reader.proofs.folding.push_gap.Goals as goal

pub returns-then-is_empty : goal.returns-then-is_empty
returns-then-is_empty c = search (rules, nothing_added)
