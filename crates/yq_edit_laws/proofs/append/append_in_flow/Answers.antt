use Rattle.std.proofs.Common.{List, ℕ, Some, map, sym, subst, ap, ◌∙◌, rules}
use Rattle.yq_core.{specs.Entries.tree_step, specs.Values.value_node}
use Rattle.yq_edit_rules.specs.Answers.{GivesSegments}
use Rattle.yq_text.specs.Halves.{whole}
use Rattle.yq_flow_edits.specs.FlowPlaces.{edit_view}
use Rattle.yq_outline.specs.Bodies.{borrowed}
use Rattle.yq_lookup.{specs.RowFronts.{IsFlowFront, flow_found}, proofs.RowParts.{leads_there, outside_there}}
use Rattle.yq_edit_laws.{specs.EditPlaces.{edit_segments, moved_on}, proofs.AppendAnswers.{kept_apart, no_collection, taken}}
use Rattle.yq_edit_laws.{proofs.FlowAnswers.whole_text, proofs.PiecePlaces.Front}
use Rattle.yq_edit_laws.proofs.append.append_in_flow.Goals as goal

pub returns-in_default : goal.returns-in_default
returns-in_default c = search (rules, outside_there)

pub returns-in_default-collection_end : goal.returns-in_default-collection_end
returns-in_default-collection_end c = search (rules, leads_there, no_collection)

pub returns-then-not-takes_in : goal.returns-then-not-takes_in
returns-then-not-takes_in c = search (rules, leads_there, kept_apart)

pub edit_at-requires : goal.edit_at-requires
edit_at-requires c =
    let x : Front = (c.in-InFlow.front, c.in-InFlow.before, c.in-InFlow.left) in
    let w = subst (λ ss. IsFlowFront c.args.cut.now c.args.path.now.doc (map tree_step ss) x) c.deref.ensures.value (leads_there c.args.cut.now c.args.path.now.doc _ _ (Some x) (ap flow_found c.in-InFlow.is) c.in_ok-found.ensures) in
    let all = whole_text c.args.cut.now (whole c.text-text.result) c.text-text.ensures.read c.text-text.ensures.text in
    record {
      lies = (taken _ _ _ x w (borrowed c.args.key) (value_node c.args.value.now) c.in-Some.end c.in-Some.ensures c.text-text.ensures.read (whole c.text-text.result)
          (edit_view c.more_place.result) all c.more_place.ensures (sym c.takes_in.ensures ∙ c.if-not-takes_in.false)).lies;
    }

pub returns : goal.returns
returns c =
    let x : Front = (c.in-InFlow.front, c.in-InFlow.before, c.in-InFlow.left) in
    let w = subst (λ ss. IsFlowFront c.args.cut.now c.args.path.now.doc (map tree_step ss) x) c.deref.ensures.value (leads_there c.args.cut.now c.args.path.now.doc _ _ (Some x) (ap flow_found c.in-InFlow.is) c.in_ok-found.ensures) in
    let all = whole_text c.args.cut.now (whole c.text-text.result) c.text-text.ensures.read c.text-text.ensures.text in
    let u = taken _ _ _ x w (borrowed c.args.key) (value_node c.args.value.now) c.in-Some.end c.in-Some.ensures c.text-text.ensures.read (whole c.text-text.result)
    (edit_view c.more_place.result) all c.more_place.ensures (sym c.takes_in.ensures ∙ c.if-not-takes_in.false) in
    let written = ap (λ (l : List ℕ). Some (edit_segments (whole c.text-text.result) (moved_on c.in-InFlow.before (edit_view c.more_place.result)) l)) (sym c.in_ok-written.ensures) in
    subst (GivesSegments c.edit_at.result) (sym (u.is ∙ written)) c.edit_at.ensures
