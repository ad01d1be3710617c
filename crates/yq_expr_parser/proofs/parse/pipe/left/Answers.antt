use Rattle.yq_expr_parser.proofs.parse.pipe.left.Goals as goal

pub returns-clause-shorter : goal.returns-clause-shorter
returns-clause-shorter c = c.in_ok-steps.ensures.shorter
