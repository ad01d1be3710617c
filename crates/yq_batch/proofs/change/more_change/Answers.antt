use Rattle.std.proofs.Common.{ℕ, Bool, List, Option, Some, map, refl, ap, ◌∙◌, sym, subst, arith}
use Rattle.yq_core.{specs.Entries.tree_step, specs.Values.value_node, specs.View.inline_view, specs.declared.inline.Inline.Inline}
use Rattle.yq_outline.specs.Bodies.{borrowed}
use Rattle.yq_documents.specs.Located.{steps_of}
use Rattle.yq_places.specs.FlowViews.{collection_along}
use Rattle.yq_edit_laws.{specs.NearParts.{IsUniqueNode, head_with}, specs.PartPuts.AreMore, proofs.AppendAnswers.more_found}
use Rattle.yq_edit_laws.proofs.FlowAnswers.{coll_found}
use Rattle.yq_semantics.specs.Operations.{append, operation_of}
use Rattle.yq_batch.{specs.Runs.{ChangesBy, cut_with}, proofs.MoreAnswers.{adds_at, more_head}, proofs.RunAnswers.unique_head}
use Rattle.yq_batch.proofs.change.more_change.Goals.{In-Some-put}
use Rattle.yq_batch.proofs.change.more_change.Goals as goal

pub collection_near-requires : goal.collection_near-requires
collection_near-requires c = subst (λ (b : Inline). IsUniqueNode (inline_view b)) (sym c.deref-2.ensures) (unique_head c.args.at.now c.requires.there)

more : (c : goal.In-Some-put) → AreMore c.in-Append.path.doc (steps_of c.in-Append.path) (borrowed c.as_deref.result) (value_node c.in-Append.value) (cut_with c.args.at.now) c.args.at.now.head.before
    (Some (c.in-Some-put.place, c.in-Some-put.written))
more c =
    let steps = sym (ap (map tree_step) c.deref.ensures.value) ∙ c.in-Some.ensures in
    let x = head_with c.args.at.now.head c.in-Some.left in
    let q = inline_view c.in-Some-collection_near.node.now in
    let f = coll_found c.args.at.now.cut.now c.in-Append.path.doc (steps_of c.in-Append.path) (Some x) x q c.requires.there.read
    (more_head c.args.at.now c.requires.there c.in-Append.path.doc (steps_of c.in-Append.path) c.in-Some.left c.if-path-at.false steps) refl
    (c.in-Some-collection_near.ensures
    ∙ ap (λ (b : Inline). collection_along (map tree_step c.in-Some.left.now) (inline_view b)) c.deref-2.ensures) in
    subst (AreMore c.in-Append.path.doc (steps_of c.in-Append.path) (borrowed c.as_deref.result) (value_node c.in-Append.value) (cut_with c.args.at.now) c.args.at.now.head.before) c.in-Some-put.is
    (more_found _ _ _ (borrowed c.as_deref.result) (value_node c.in-Append.value) x q f c.in_ok-put.put c.in_ok-put.ensures)

pub moved_place-requires : goal.moved_place-requires
moved_place-requires c = let h = more c in record { order = omega (arith, h.2.1.lies.order); small = omega (arith, h.2.1.lies.small, h.2.1.lies.end.0) }

pub returns : goal.returns
returns c =
    let steps = sym (ap (map tree_step) c.deref.ensures.value) ∙ c.in-Some.ensures in
    let place = c.moved_place.ensures in
    subst (λ (b : Bool). ChangesBy b (operation_of c.args.op.now) c.args.at.now
    (record {
      place = c.moved_place.result;
      lead = c.in-Some-put.place.lead;
      written = Some c.in-Some-put.written;
      steps =
          c.in-Some.left;
    })) (sym place.more)
    (adds_at c.args.at.now (operation_of c.args.op.now) c.in-Append.path.doc (steps_of c.in-Append.path) (map tree_step c.in-Some.left.now)
    (borrowed c.as_deref.result) (value_node c.in-Append.value) (c.in-Some-put.place, c.in-Some-put.written) _
    (ap operation_of c.in-Append.is
    ∙ ap (λ (k : Option (List ℕ)). append c.in-Append.path.doc (steps_of c.in-Append.path) k (value_node c.in-Append.value))
    (sym c.as_deref.ensures.value)) c.requires.operand c.if-path-at.false steps (more (goal.at.returns c).In-Some-put) refl
    (λ i. record { start = place.start i; end = place.end i; lead = c.in-Some-put.place.lead.now }) refl)
