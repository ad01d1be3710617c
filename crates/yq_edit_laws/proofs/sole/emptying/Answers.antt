use Rattle.std.proofs.Common.{map, ap, ◌∙◌, rules}
use Rattle.yq_core.specs.Entries.{tree_step}
use Rattle.yq_documents.{specs.Located.steps_of, specs.Reading.cut_of}
use Rattle.yq_places.{specs.NodesAt.node_view, specs.Placements.last_step}
use Rattle.yq_edit_laws.{specs.Emptying.emptying, proofs.EmptyingAnswers.{emptied_above, put_at}}
use Rattle.yq_edit_laws.proofs.sole.emptying.Goals as goal

pub returns-in_default : goal.returns-in_default
returns-in_default c = λ t above. ap (emptying c.args.path.now.doc (cut_of t)) (c.in_default.ensures ∙ ap (λ ss. last_step (map tree_step ss)) c.deref.ensures.value)

pub returns-in_default-emptied : goal.returns-in_default-emptied
returns-in_default-emptied c = search (rules, put_at, emptied_above)

pub returns : goal.returns
returns c =
    let last = c.in-Some.ensures ∙ ap (λ ss. last_step (map tree_step ss)) c.deref.ensures.value in
    λ t above. search (rules, emptied_above c.args.path.now.doc (cut_of t) (last_step (steps_of c.args.path.now)) _ (node_view c.args.node.now) last above)
