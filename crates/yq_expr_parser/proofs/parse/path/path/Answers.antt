use Rattle.std.{proofs.Common.{◌≡◌, ◌∙◌, sym, ap, false}, specs.Prelude.{is_some, codes, ◌==◌}}
use Rattle.yq_expr_parser.{proofs.ReadSteps.{bind_gives, test_fails, seen_as, path_plain}, specs.Lexing.{tokens, after}}
use Rattle.yq_expr_parser.specs.Parse.{path_at}
use Rattle.yq_semantics.specs.View.{program_step}
use Rattle.yq_expr_parser.proofs.parse.path.path.Goals as goal

pub returns-clause-value : goal.returns-clause-value
unfolding path_at
returns-clause-value c =
    let no_bracket : is_some (after (codes "[") (tokens c.args.text.now)) ≡ false = sym (ap is_some c.after.ensures.value) ∙ seen_as (λ r. tokens r.now) c.after.result _ (sym c.is_some.ensures ∙ c.if-is_some.false) in
    test_fails _ _ _ _ no_bracket (bind_gives _ _ _ _ c.in_ok-steps.ensures.value (path_plain program_step c.in_ok-steps.steps.items _ (ap (λ n. n == 0) (sym c.in_ok-steps.steps.ok.0) ∙ (sym c.is_empty.ensures ∙ c.if-is_empty.false))))
