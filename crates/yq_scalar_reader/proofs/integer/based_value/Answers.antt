use Rattle.std.proofs.Common.{rules}
use Rattle.yq_scalar_reader.proofs.IntegerLaws.{based_parsed}
use Rattle.yq_scalar_reader.proofs.integer.based_value.Goals as goal

pub returns-then-are_digits : goal.returns-then-are_digits
returns-then-are_digits c = search (rules, based_parsed)
