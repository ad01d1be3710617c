use Rattle.std.proofs.Common.{Ok}
use Rattle.yq_semantics.specs.View.{program_of}
use Rattle.yq_expr_parser.proofs.Outcomes.{values_by}
use Rattle.yq_expr_parser.proofs.parse.parse.Goals as goal

-- the literals of what is parsed are values
pub new-requires : goal.new-requires
new-requires c = values_by program_of c.args.text.now (Ok c.in_ok-syntax.syntax) c.in_ok-syntax.ensures
