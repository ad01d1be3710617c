use Rattle.std.proofs.Common.{Some, None, option_map, sym, ap, ◌∙◌, string_bytes, rules}
use Rattle.yq_expr_parser.{specs.Lexing.as_string, specs.TokenView.token_view, proofs.Fronts.{taken_front, taken_end}}
use Rattle.yq_expr_parser.proofs.front.string.Goals as goal

pub returns-in-Some-2-clause-value : goal.returns-in-Some-2-clause-value
returns-in-Some-2-clause-value c =
    sym (taken_front as_string c.args.text.now (token_view c.in-Some.token, c.in-Some.rest.now) (Some (string_bytes c.in-Some-2.content))
    c.in-Some.ensures.value (sym (ap (option_map string_bytes) c.in-Some-2.is) ∙ c.in_ok-content-in-Some.ensures))

pub returns-in-None-2-clause-value : goal.returns-in-None-2-clause-value
returns-in-None-2-clause-value c =
    (search rules, sym (taken_front as_string c.args.text.now (token_view c.in-Some.token, c.in-Some.rest.now) None c.in-Some.ensures.value (sym (ap (option_map string_bytes) c.in-None-2.is) ∙ c.in_ok-content-in-Some.ensures)))

pub returns-in-None-clause-value : goal.returns-in-None-clause-value
returns-in-None-clause-value c =
    (search rules, sym (taken_end as_string c.args.text.now c.in-None.ensures.value))
