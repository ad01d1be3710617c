use Rattle.yq_expr_parser.{specs.TokenView.token_view, proofs.Fronts.{after_front, after_other, after_end}}
use Rattle.yq_expr_parser.proofs.front.after.Goals as goal

pub returns-then-is_symbol-clause-value : goal.returns-then-is_symbol-clause-value
returns-then-is_symbol-clause-value c =
    after_front c.args.symbol.now c.args.text.now (token_view c.in-Some.token, c.in-Some.rest.now) c.in-Some.ensures.value c.if-is_symbol.ensures

pub returns-else-is_symbol-clause-value : goal.returns-else-is_symbol-clause-value
returns-else-is_symbol-clause-value c =
    after_other c.args.symbol.now c.args.text.now (token_view c.in-Some.token, c.in-Some.rest.now) c.in-Some.ensures.value c.if-is_symbol.ensures

pub returns-in-None-clause-value : goal.returns-in-None-clause-value
returns-in-None-clause-value c =
    after_end c.args.symbol.now c.args.text.now c.in-None.ensures.value
