use Rattle.yq_expr_parser.proofs.Outcomes.{one_of}
use Rattle.yq_expr_parser.proofs.laws.one_program.Goals as goal

pub returns : goal.returns
returns c = one_of
