use Rattle.std.proofs.Common.{sym, refl, ◌∙◌}
use Rattle.yq_expr_parser.{proofs.ReadSteps.{bind_gives, bind_none, test_holds, test_fails}, specs.Parse.updates_at}
use Rattle.yq_expr_parser.proofs.parse.updates.Goals as goal

pub returns-then-is_end : goal.returns-then-is_end
unfolding updates_at
returns-then-is_end c = bind_gives _ _ _ _ (bind_gives _ _ _ _ c.in_ok-updates.ensures.value (test_holds _ _ _ _ (sym c.is_end.ensures ∙ c.if-is_end.true) refl)) refl

pub returns-else-is_end : goal.returns-else-is_end
unfolding updates_at
returns-else-is_end c = (c.misread.ensures, bind_none _ _ (bind_gives _ _ _ _ c.in_ok-updates.ensures.value (test_fails _ _ _ _ (sym c.is_end.ensures ∙ c.if-is_end.false) refl)))
