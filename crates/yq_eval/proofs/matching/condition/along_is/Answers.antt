use Rattle.std.proofs.Common.{Option, ap, ◌∙◌, map}
use Rattle.yq_eval.{specs.PlaceView.place_of, specs.ValuesAlong.found_or_null, proofs.AlongLaws.known_along}
use Rattle.yq_nodes.{specs.Nodes.node_of, specs.declared.nodes.node.Node.Node}
use Rattle.yq_outline.specs.Outline.{null_node}
use Rattle.yq_semantics.{specs.Judgement.gives, specs.View.program_step}
use Rattle.yq_eval.proofs.matching.condition.along_is.Goals as goal

pub returns-in-Some-value : goal.returns-in-Some-value
returns-in-Some-value c =
    known_along (map program_step c.args.steps.now) c.args.scalar.now.kind c.args.scalar.now.text (place_of c.args.place.now) (node_of c.in-Some-value.node) c.node_is.result
    (c.in-Some.ensures ∙ ap (λ (o : Option Node). gives (found_or_null o)) c.in-Some-value.is) c.node_is.ensures

pub returns-in-None : goal.returns-in-None
returns-in-None c =
    known_along (map program_step c.args.steps.now) c.args.scalar.now.kind c.args.scalar.now.text (place_of c.args.place.now) null_node c.node_is-in-None.result
    (c.in-Some.ensures ∙ ap (λ (o : Option Node). gives (found_or_null o)) c.in-None.is) c.node_is-in-None.ensures
