use Rattle.std.proofs.Common.{Some, None}
use Rattle.yq_expr_parser.{specs.Lexing.as_number, specs.TokenView.token_view, proofs.Fronts.{taken_front, taken_end}}
use Rattle.yq_expr_parser.proofs.front.number.Goals as goal

pub returns-in-Some-number-clause-value : goal.returns-in-Some-number-clause-value
returns-in-Some-number-clause-value c =
    taken_front as_number c.args.text.now (token_view c.in-Some.token, c.in-Some.rest.now) (Some c.in-Some-number.number.now) c.in-Some.ensures.value c.in-Some-number.ensures

pub returns-in-None-number-clause-value : goal.returns-in-None-number-clause-value
returns-in-None-number-clause-value c =
    taken_front as_number c.args.text.now (token_view c.in-Some.token, c.in-Some.rest.now) None c.in-Some.ensures.value c.in-None-number.ensures

pub returns-in-None-clause-value : goal.returns-in-None-clause-value
returns-in-None-clause-value c = taken_end as_number c.args.text.now c.in-None.ensures.value
