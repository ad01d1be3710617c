use Rattle.yq_semantics.specs.View.{program_of}
use Rattle.yq_expr_parser.proofs.Outcomes.{found_by, only_by, refused_by}
use Rattle.yq_expr_parser.proofs.parse.parse_expr.Goals as goal

pub returns-clause-found : goal.returns-clause-found
returns-clause-found c = found_by program_of c.args.text.now c.parse.result c.parse.ensures

pub returns-clause-only : goal.returns-clause-only
returns-clause-only c = only_by program_of c.args.text.now c.parse.result c.parse.ensures

pub returns-clause-refused : goal.returns-clause-refused
returns-clause-refused c = refused_by program_of c.args.text.now c.parse.result c.parse.ensures
