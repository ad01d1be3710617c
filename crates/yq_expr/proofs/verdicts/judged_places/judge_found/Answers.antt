use Rattle.std.proofs.Common.{List, sym, ap, ◌∙◌, subst}
use Rattle.yq_expr.specs.JudgedChanges.{action_in}
use Rattle.yq_eval.{specs.FoundView.found_places, specs.PlaceView.places_of}
use Rattle.yq_planner.specs.Substitutes.{verdict}
use Rattle.yq_semantics.{specs.Changes.at_each, specs.Judgement.Judges, specs.Places.FoundPlace, specs.PlacesApart.AreIn}
use Rattle.yq_expr.proofs.verdicts.judged_places.judge_found.Goals as goal

pub returns-in-Children : goal.returns-in-Children
returns-in-Children c = λ root named within.
    subst (λ (ps : List FoundPlace). Judges (λ _. tt) c.judge_children.result (verdict (at_each root (action_in c.args.found.now.document c.args.action) ps)))
    (sym (ap found_places c.in-Children.is))
    (c.judge_children.ensures root named (subst (AreIn root) (ap found_places c.in-Children.is) within))

pub returns-in-Listed : goal.returns-in-Listed
returns-in-Listed c = λ root named within.
    let same = ap places_of c.deref.ensures.value ∙ sym (ap found_places c.in-Listed.is) in
    subst (λ (ps : List FoundPlace). Judges (λ _. tt) c.judge_each.result (verdict (at_each root (action_in c.args.found.now.document c.args.action) ps)))
    same
    (c.judge_each.ensures root named (subst (AreIn root) (sym same) within))
