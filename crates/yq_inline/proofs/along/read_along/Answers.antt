use Rattle.std.{proofs.Common.{[], map, sym, ap, ◌∙◌}, proofs.lemmas.Result.IfOk-weaker}
use Rattle.yq_core.specs.Entries.{tree_step}
use Rattle.yq_inline.{specs.Along.{front_read, located_along}, proofs.AlongLaws.located_in}
use Rattle.yq_inline.proofs.along.read_along.Goals as goal

pub returns-in_default : goal.returns-in_default
returns-in_default c = sym (located_in (map tree_step c.args.steps.now) (front_read c.args.node) ∙ ap (located_along []) (sym c.in_default.ensures))

pub returns : goal.returns
returns c =
    IfOk-weaker c.read_front.result _ _
    (λ o is. is ∙ (ap (located_along []) c.in-Some.ensures ∙ sym (located_in (map tree_step c.args.steps.now) (front_read c.args.node)))) c.read_front.ensures
