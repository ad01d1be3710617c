use Rattle.std.proofs.Common.{sym, ap, ◌∙◌, subst}
use Rattle.yq_nodes.specs.Nodes.{node_of}
use Rattle.yq_eval.{specs.FoundView.child_places, specs.PlaceView.{path_of, places_of}}
use Rattle.yq_semantics.{specs.Judgement.{MatchFails, gives}, specs.Places.{for_each, step_on}}
use Rattle.yq_eval.specs.declared.matching.place.FoundPlace as declared
use Rattle.yq_eval.proofs.matching.found.all_of.Goals as goal

pub returns-in-Some : goal.returns-in-Some
returns-in-Some c = c.in-Some.ensures ∙ ap (λ (q : declared.FoundPlace). gives (child_places (path_of q.path) (node_of q.node))) (sym c.in_ok-place.ensures)

pub returns-in-Ok : goal.returns-in-Ok
returns-in-Ok c = ap (λ s. for_each (step_on s) (places_of c.args.places.now)) (sym c.requires) ∙ c.in-Ok.ensures

pub returns-in-Err : goal.returns-in-Err
returns-in-Err c = subst (λ s. MatchFails c.in-Err.e (for_each (step_on s) (places_of c.args.places.now))) c.requires c.in-Err.ensures
