use Rattle.std.proofs.Common.{ℕ, List, Option, is_some, ap, ◌∙◌}
use Rattle.yq_semantics.specs.Tokens.{Token}
use Rattle.yq_expr_parser.{specs.Lexing.as_step, specs.TokenView.token_view, proofs.Fronts.{is_taken, taken_end}}
use Rattle.yq_expr_parser.proofs.front.begins_step.Goals as goal

pub returns-in-Some : goal.returns-in-Some
returns-in-Some c =
    c.is_step.ensures ∙ is_taken as_step c.args.text.now (token_view c.in-Some.token, c.in-Some.field-0-1.now) c.in-Some.ensures.value

pub returns-in-None : goal.returns-in-None
returns-in-None c =
    ap (λ (o : Option (List ℕ × List Token)). is_some o) (taken_end as_step c.args.text.now c.in-None.ensures.value)
