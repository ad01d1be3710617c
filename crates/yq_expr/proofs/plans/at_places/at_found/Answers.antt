use Rattle.std.proofs.Common.{List, sym, ap, ◌∙◌, subst}
use Rattle.yq_expr.specs.JudgedChanges.{action_in}
use Rattle.yq_eval.{specs.FoundView.found_places, specs.PlaceView.places_of}
use Rattle.yq_semantics.{specs.Changes.at_each, specs.Judgement.Judges, specs.Places.FoundPlace, specs.PlacesApart.AreIn}
use Rattle.yq_planner.specs.ChangeView.{changes_under}
use Rattle.yq_expr.proofs.plans.at_places.at_found.Goals as goal

pub returns-in-Children-clause-changes : goal.returns-in-Children-clause-changes
returns-in-Children-clause-changes c = λ root named within.
    subst (λ (ps : List FoundPlace). Judges changes_under c.at_children.result (at_each root (action_in c.args.found.now.document c.args.action) ps))
    (sym (ap found_places c.in-Children.is))
    (c.at_children.ensures.changes root named (subst (AreIn root) (ap found_places c.in-Children.is) within))

pub returns-in-Listed-clause-changes : goal.returns-in-Listed-clause-changes
returns-in-Listed-clause-changes c = λ root named within.
    let same = ap places_of c.deref.ensures.value ∙ sym (ap found_places c.in-Listed.is) in
    subst (λ (ps : List FoundPlace). Judges changes_under c.at_listed.result (at_each root (action_in c.args.found.now.document c.args.action) ps))
    same
    (c.at_listed.ensures.changes root named (subst (AreIn root) (sym same) within))
