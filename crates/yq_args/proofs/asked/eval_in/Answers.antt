use Rattle.std.proofs.Common.{◌∙◌, ap, codes, inr, option_map, refl, sym, Some}
use Rattle.clap.specs.Words.{first_of, rows_of, found_of}
use Rattle.yq_args.{specs.Setting.asked_expression, proofs.AskedLaws.missing_fails}
use Rattle.yq_args.proofs.asked.eval_in.Goals as goal

pub returns-clause-ok : goal.returns-clause-ok
returns-clause-ok c =
    let found = sym c.text_of.ensures ∙ ap (option_map (λ s. s.now)) c.in-Some.is in
    let asked = ap (λ o. asked_expression o c.in-Some.expr.now) (sym c.text_of-2.ensures) ∙ sym c.in_ok-expression.ensures in
    let expr = ap (option_map (asked_expression (first_of (codes "text") (rows_of (found_of c.args.matches.now))))) found ∙ ap Some asked in
    (refl, (record { expr_is = expr; names = c.in_ok-file.ensures.ok; options = c.options_of.ensures }, c.switch_of.ensures))

pub returns-in_default-clause-err : goal.returns-in_default-clause-err
returns-in_default-clause-err c = inr (refl, missing_fails _ _ (sym c.text_of.ensures ∙ ap (option_map (λ s. s.now)) c.in_default.is))
