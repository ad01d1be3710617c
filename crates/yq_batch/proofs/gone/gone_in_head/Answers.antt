use Rattle.std.{proofs.Common.{◌∙◌, inl, map, refl, ap}, proofs.lemmas.Option.IfSome_then}
use Rattle.yq_core.{specs.Entries.tree_step, specs.View.inline_view}
use Rattle.yq_places.specs.FlowViews.{collection_along}
use Rattle.yq_edit_laws.{specs.NearParts.head_with, proofs.FlowKeys.collection_unique}
use Rattle.yq_batch.proofs.gone.gone_in_head.Goals as goal

pub part_gone-requires : goal.part_gone-requires
part_gone-requires c =
    let x = head_with c.args.at.now.head c.args.steps in
    collection_unique c.args.at.now.cut.now c.args.at.now.doc _ x c.requires.read (c.requires.reports.reports x refl refl refl) _
    (c.in_ok-node.ensures ∙ ap (λ v. collection_along (map tree_step c.args.steps.now) (inline_view v)) c.deref.ensures)

pub returns : goal.returns
returns c =
    IfSome_then c.part_gone.result c.part_gone.ensures (λ z h. record {
      node = inline_view c.in_ok-node.node.now;
      there = c.in_ok-node.ensures ∙ ap (λ v. collection_along (map tree_step c.args.steps.now) (inline_view v)) c.deref.ensures;
      left = c.in_ok-left.left;
      first = c.in_ok-left.ensures;
      goes = inl h;
    })
