use Rattle.std.proofs.Common.{rules}
use Rattle.yq_scalar_reader.proofs.IntegerLaws.{boundary_base}
use Rattle.yq_scalar_reader.proofs.integer.number_of.Goals as goal

pub split_at-requires : goal.split_at-requires
split_at-requires c = search (rules, boundary_base)

pub split_at-requires-then-has_base-2 : goal.split_at-requires-then-has_base-2
split_at-requires-then-has_base-2 c = search (rules, boundary_base)
