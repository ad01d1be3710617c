use Rattle.std.proofs.Common.{[], map, sym, subst, ap, ◌∙◌}
use Rattle.yq_core.specs.Entries.{tree_step}
use Rattle.yq_inline.{specs.Along.front_read, specs.Neighbours.{FindsCollection, coll_read}, proofs.AlongLaws.collection_in}
use Rattle.yq_inline.proofs.neighbours.collection_along.Goals as goal

pub returns-in_default : goal.returns-in_default
returns-in_default c = collection_in (map tree_step c.args.steps.now) (front_read c.args.node) ∙ ap (coll_read []) (sym c.in_default.ensures)

pub returns : goal.returns
returns c =
    subst (λ o. FindsCollection o c.leading_parts.result)
    (ap (coll_read []) c.in-Some.ensures ∙ sym (collection_in (map tree_step c.args.steps.now) (front_read c.args.node))) c.leading_parts.ensures
