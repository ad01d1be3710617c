use Rattle.std.{proofs.Common.{rules, ◌≡◌, true, false, map, sym, ap, ◌∙◌}, specs.List.list_all}
use Rattle.yq_expr_parser.specs.Parse.{operand_at}
use Rattle.yq_semantics.{specs.Program.{is_single, is_simple}, specs.View.program_step, proofs.Lists.list_all_map}
use Rattle.yq_expr_parser.proofs.parse.pipe.operand.Goals as goal

pub returns-then-is_simple-clause-value : goal.returns-then-is_simple-clause-value
unfolding operand_at
returns-then-is_simple-clause-value c =
    let simple : is_simple (map program_step c.in_ok-steps.steps.items) ≡ true = list_all_map is_single program_step c.in_ok-steps.steps.items
    ∙ (ap (list_all (λ s. is_single (program_step s))) (sym c.deref.ensures.value) ∙ (sym c.is_simple.ensures ∙ c.if-is_simple.true)) in
    search (rules, simple)

pub returns-clause-value : goal.returns-clause-value
unfolding operand_at
returns-clause-value c =
    let not_simple : is_simple (map program_step c.in_ok-steps.steps.items) ≡ false = list_all_map is_single program_step c.in_ok-steps.steps.items
    ∙ (ap (list_all (λ s. is_single (program_step s))) (sym c.deref.ensures.value) ∙ (sym c.is_simple.ensures ∙ c.if-is_simple.false)) in
    search (rules, not_simple)
