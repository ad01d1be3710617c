use Rattle.std.proofs.Common.{◌∙◌, List, ℕ, map, Some, sym, ap}
use Rattle.yq_text.specs.Halves.{whole}
use Rattle.yq_core.specs.Entries.{tree_step}
use Rattle.yq_flow_edits.specs.FlowPlaces.{edit_view}
use Rattle.yq_documents.specs.Located.{steps_of}
use Rattle.yq_places.specs.Placements.{last_step}
use Rattle.yq_lookup.specs.RowFronts.{flow_found}
use Rattle.yq_edit_laws.{specs.EditPlaces.{edit_segments, moved_on}, proofs.FlowAnswers.whole_text, proofs.PiecePlaces.Front}
use Rattle.yq_edit_laws.proofs.RemoveAnswers.{before_offset, no_part, removal_found, removal_missing}
use Rattle.yq_edit_laws.proofs.remove.removed_or_sole.Goals as goal

pub returns-in_default-part_neighbours-clause-removed : goal.returns-in_default-part_neighbours-clause-removed
returns-in_default-part_neighbours-clause-removed c =
    let last = c.in-Some.ensures ∙ ap (λ ss. last_step (map tree_step ss)) c.deref.ensures.value in
    let x : Front = (c.in-InFlow.front, c.in-InFlow.before, c.in-InFlow.left) in
    let w = before_offset c.args.cut.now c.args.path.now _ (tree_step c.in-Some.last.now) c.args.above.now x last c.requires (ap flow_found c.in-InFlow.is) in
    no_part c.args.cut.now c.args.path.now.doc (steps_of c.args.path.now) _ (tree_step c.in-Some.last.now) last x w c.in_default-part_neighbours.ensures

pub returns-in_default-place_between-clause-removed : goal.returns-in_default-place_between-clause-removed
returns-in_default-place_between-clause-removed c =
    let last = c.in-Some.ensures ∙ ap (λ ss. last_step (map tree_step ss)) c.deref.ensures.value in
    let x : Front = (c.in-InFlow.front, c.in-InFlow.before, c.in-InFlow.left) in
    let w = before_offset c.args.cut.now c.args.path.now _ (tree_step c.in-Some.last.now) c.args.above.now x last c.requires (ap flow_found c.in-InFlow.is) in
    removal_missing c.args.cut.now c.args.path.now.doc (steps_of c.args.path.now) _ (tree_step c.in-Some.last.now) last x w c.text-text.ensures.read
    c.in-Some-part_neighbours.part c.in-Some-part_neighbours.ensures c.in_default-place_between.ensures

pub edit_at-requires : goal.edit_at-requires
edit_at-requires c =
    let last = c.in-Some.ensures ∙ ap (λ ss. last_step (map tree_step ss)) c.deref.ensures.value in
    let x : Front = (c.in-InFlow.front, c.in-InFlow.before, c.in-InFlow.left) in
    let w = before_offset c.args.cut.now c.args.path.now _ (tree_step c.in-Some.last.now) c.args.above.now x last c.requires (ap flow_found c.in-InFlow.is) in
    let all = whole_text c.args.cut.now (whole c.text-text.result) c.text-text.ensures.read c.text-text.ensures.text in
    record {
      lies = (removal_found c.args.cut.now c.args.path.now.doc (steps_of c.args.path.now) _ (tree_step c.in-Some.last.now) last x w c.text-text.ensures.read
          c.in-Some-part_neighbours.part c.in-Some-part_neighbours.ensures (whole c.text-text.result) (edit_view c.in-Some-place_between.place) all c.in-Some-place_between.ensures).lies;
    }

pub returns-clause-removed : goal.returns-clause-removed
returns-clause-removed c =
    let last = c.in-Some.ensures ∙ ap (λ ss. last_step (map tree_step ss)) c.deref.ensures.value in
    let x : Front = (c.in-InFlow.front, c.in-InFlow.before, c.in-InFlow.left) in
    let w = before_offset c.args.cut.now c.args.path.now _ (tree_step c.in-Some.last.now) c.args.above.now x last c.requires (ap flow_found c.in-InFlow.is) in
    let all = whole_text c.args.cut.now (whole c.text-text.result) c.text-text.ensures.read c.text-text.ensures.text in
    let u = removal_found c.args.cut.now c.args.path.now.doc (steps_of c.args.path.now) _ (tree_step c.in-Some.last.now) last x w c.text-text.ensures.read
    c.in-Some-part_neighbours.part c.in-Some-part_neighbours.ensures (whole c.text-text.result) (edit_view c.in-Some-place_between.place) all c.in-Some-place_between.ensures in
    let nothing = ap (λ (l : List ℕ). Some (edit_segments (whole c.text-text.result) (moved_on c.in-InFlow.before (edit_view c.in-Some-place_between.place)) l)) (sym c.new-nothing.ensures.bytes) in
    u.is ∙ (nothing ∙ c.in_ok-segments.ensures)
