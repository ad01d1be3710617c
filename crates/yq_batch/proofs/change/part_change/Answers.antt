use Rattle.std.proofs.Common.{◌∙◌, Bool, Some, map, refl, sym, ap, subst, arith}
use Rattle.yq_core.{specs.Entries.{entry_view, tree_step}, specs.Values.value_node, specs.View.inline_view}
use Rattle.yq_core.specs.declared.inline.Inline.{Inline}
use Rattle.yq_documents.specs.Located.{steps_of}
use Rattle.yq_places.{specs.Placements.last_step, specs.FlowViews.collection_along}
use Rattle.yq_edit_laws.{specs.NearParts.{IsUniqueNode, head_with}, proofs.FlowAnswers.coll_found, proofs.FlowKeys.collection_unique}
use Rattle.yq_edit_laws.{proofs.PutAnswers.puts_found, specs.PartPuts.{IsValuePut, place_after}}
use Rattle.yq_semantics.specs.Operations.{operation_of}
use Rattle.yq_batch.{specs.Runs.{ChangesBy, cut_with}, proofs.RunAnswers.{head_there, puts_at, unique_head}}
use Rattle.yq_batch.proofs.change.part_change.Goals.{After-replace_place-place}
use Rattle.yq_batch.proofs.change.part_change.Goals as goal

pub collection_near-requires : goal.collection_near-requires
collection_near-requires c = subst (λ (b : Inline). IsUniqueNode (inline_view b)) (sym c.deref-2.ensures) (unique_head c.args.at.now c.requires.there)

pub part_near-requires : goal.part_near-requires
part_near-requires c =
    let last = c.in-Some-last_step.ensures ∙ ap (λ ss. last_step (map tree_step ss)) c.deref.ensures.value in
    collection_unique c.args.at.now.cut.now c.in-Replace.path.doc _ (head_with c.args.at.now.head c.in-Some.left) c.requires.there.read
    (head_there c.args.at.now c.requires.there c.in-Replace.path.doc _ _ (steps_of c.in-Replace.path) c.in-Some.left last c.in-Some.ensures) _
    (c.in-Some-collection_near.ensures
    ∙ ap (λ (b : Inline). collection_along (map tree_step c.in-Some.left.now) (inline_view b)) c.deref-2.ensures)

put : (c : goal.After-replace_place-place) → IsValuePut c.in-Replace.path.doc (steps_of c.in-Replace.path) (value_node c.in-Replace.value) (cut_with c.args.at.now) (place_after c.args.at.now.head.before c.replace_place-place.result)
    c.in_ok-written.written
put c =
    let last = c.in-Some-last_step.ensures ∙ ap (λ ss. last_step (map tree_step ss)) c.deref.ensures.value in
    let agrees = head_there c.args.at.now c.requires.there c.in-Replace.path.doc _ _ (steps_of c.in-Replace.path) c.in-Some.left last c.in-Some.ensures in
    let x = head_with c.args.at.now.head c.in-Some.left in
    let q = inline_view c.in-Some-collection_near.node.now in
    let f = coll_found c.args.at.now.cut.now c.in-Replace.path.doc _ (Some x) x q c.requires.there.read agrees refl
    (c.in-Some-collection_near.ensures
    ∙ ap (λ (b : Inline). collection_along (map tree_step c.in-Some.left.now) (inline_view b)) c.deref-2.ensures) in
    puts_found _ _ (steps_of c.in-Replace.path) _ (tree_step c.in-Some-last_step.last.now) x q last f _ c.in-Some-part_near.ensures
    (entry_view c.in-Some-part_near.entry) refl (value_node c.in-Replace.value) c.replace_place-place.result c.in_ok-written.written c.replace_place-place.ensures c.in_ok-written.ensures

pub moved_place-requires : goal.moved_place-requires
moved_place-requires c = let h = put c in record { order = omega (arith, h.2.lies.order); small = omega (arith, h.2.lies.small, h.2.lies.end.0) }

pub returns : goal.returns
returns c =
    let place = c.moved_place.ensures in
    subst (λ (b : Bool). ChangesBy b (operation_of c.args.op.now) c.args.at.now (record { place = c.moved_place.result; lead = c.replace_place-place.result.lead; written = c.in_ok-written.written; steps = c.in-Some.left })) (sym place.more)
    (puts_at c.args.at.now (operation_of c.args.op.now) c.in-Replace.path.doc (steps_of c.in-Replace.path) (value_node c.in-Replace.value) c.replace_place-place.result c.in_ok-written.written _
    (ap operation_of c.in-Replace.is) c.requires.operand (c.in-Some.ensures.0, (map tree_step c.in-Some.left.now, c.in-Some.ensures.1)) (put (goal.at.returns c).After-replace_place-place)
    (λ i. record { start = place.start i; end = place.end i; lead = c.replace_place-place.result.lead.now }) refl)
