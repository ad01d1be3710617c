use Rattle.std.proofs.Common.{List, [], ◌∷◌, map, sym, ap, ◌∙◌, subst}
use Rattle.yq_nodes.specs.Nodes.{node_of}
use Rattle.yq_eval.{specs.FoundView.found_places, specs.PlaceView.places_of, proofs.EachLaws.fails_then, proofs.FoundLaws.each_last}
use Rattle.yq_semantics.{specs.Judgement.{MatchFails, Judges, and_then}, specs.Places.{FoundPlace, root_place, for_each, step_on, traverse}}
use Rattle.yq_semantics.{specs.Program.each, specs.View.{stage_of, program_step}}
use Rattle.yq_eval.specs.declared.matching.place.FoundPlace as declared
use Rattle.yq_eval.proofs.matching.found.find_places.Goals as goal

pub returns-in-Err-traverse : goal.returns-in-Err-traverse
returns-in-Err-traverse c =
    subst (MatchFails c.in-Err-traverse.e) (sym (each_last c.args.doc (map stage_of c.args.pipe.now) (map program_step c.in-Some.front.now) (node_of c.args.root) c.in-Some.ensures.1))
    (fails_then (for_each (step_on each)) (traverse (map program_step c.in-Some.front.now) (root_place (node_of c.args.root) ∷ [])) c.in-Err-traverse.e
    (subst (λ (qs : List FoundPlace). MatchFails c.in-Err-traverse.e (traverse (map program_step c.in-Some.front.now) qs)) c.in_ok-start.ensures c.in-Err-traverse.ensures))

pub returns-in-Ok-traverse : goal.returns-in-Ok-traverse
returns-in-Ok-traverse c =
    subst (Judges found_places c.all_of.result)
    (sym (each_last c.args.doc (map stage_of c.args.pipe.now) (map program_step c.in-Some.front.now) (node_of c.args.root) c.in-Some.ensures.1
    ∙ (ap (λ (qs : List FoundPlace). and_then (for_each (step_on each)) (traverse (map program_step c.in-Some.front.now) qs)) (sym c.in_ok-start.ensures)
    ∙ (ap (and_then (for_each (step_on each))) c.in-Ok-traverse.ensures
    ∙ ap (λ (ps : List declared.FoundPlace). for_each (step_on each) (places_of ps)) (sym c.deref.ensures.value)))))
    c.all_of.ensures
