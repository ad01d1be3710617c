use Rattle.yq_expr_parser.proofs.OutcomeLaws.{one_list}
use Rattle.yq_expr_parser.proofs.laws.one_token_list.Goals as goal

pub returns : goal.returns
returns c = one_list
