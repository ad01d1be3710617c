use Rattle.std.proofs.Common.{◌∙◌, ap, codes, sym, Some}
use Rattle.clap.specs.Words.{Rule, rule_of}
use Rattle.yq_args.specs.Line.{argument_rule}
use Rattle.yq_args.proofs.line.arg_of.Goals as goal

pub returns-in-Inplace-clause-rule : goal.returns-in-Inplace-clause-rule
returns-in-Inplace-clause-rule c = c.switch.ensures.rule ∙ ap argument_rule (sym c.in-Inplace.is)

pub returns-in-ExitStatus-clause-rule : goal.returns-in-ExitStatus-clause-rule
returns-in-ExitStatus-clause-rule c = c.switch-in-ExitStatus.ensures.rule ∙ ap argument_rule (sym c.in-ExitStatus.is)

pub returns-in-NoDoc-clause-rule : goal.returns-in-NoDoc-clause-rule
returns-in-NoDoc-clause-rule c = c.switch-in-NoDoc.ensures.rule ∙ ap argument_rule (sym c.in-NoDoc.is)

pub returns-in-Diff-clause-rule : goal.returns-in-Diff-clause-rule
returns-in-Diff-clause-rule c = c.switch-in-Diff.ensures.rule ∙ ap argument_rule (sym c.in-Diff.is)

pub returns-in-ExpectChange-clause-rule : goal.returns-in-ExpectChange-clause-rule
returns-in-ExpectChange-clause-rule c = c.long_switch.ensures.rule ∙ ap argument_rule (sym c.in-ExpectChange.is)

pub returns-in-Expr-clause-rule : goal.returns-in-Expr-clause-rule
returns-in-Expr-clause-rule c = c.positional.ensures.rule ∙ ap argument_rule (sym c.in-Expr.is)

pub returns-in-Count-clause-rule : goal.returns-in-Count-clause-rule
returns-in-Count-clause-rule c = c.positional-in-Count.ensures.rule ∙ ap argument_rule (sym c.in-Count.is)

pub returns-in-File-clause-rule : goal.returns-in-File-clause-rule
returns-in-File-clause-rule c = c.positional-in-File.ensures.rule ∙ ap argument_rule (sym c.in-File.is)

pub returns-in-Journal-clause-rule : goal.returns-in-Journal-clause-rule
returns-in-Journal-clause-rule c = ap rule_of c.long.ensures ∙ ap (λ (r : Rule). record r { long = Some (codes "journal") }) c.new.ensures.rule ∙ ap argument_rule (sym c.in-Journal.is)

pub returns-in-Text-clause-rule : goal.returns-in-Text-clause-rule
returns-in-Text-clause-rule c = ap rule_of c.long-in-Text.ensures ∙ ap (λ (r : Rule). record r { long = Some (codes "text") }) c.new-in-Text.ensures.rule ∙ ap argument_rule (sym c.in-Text.is)
