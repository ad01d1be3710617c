use Rattle.std.{proofs.Common.{◌≡◌, eqb, map, sym, ap, ◌∙◌}, proofs.lemmas.List.length-map, proofs.lemmas.Option.same_Some}
use Rattle.yq_core.specs.Entries.{tree_step}
use Rattle.yq_outline.{specs.Outline.level, specs.RowWalk.line_number, proofs.WalkPositions.located}
use Rattle.yq_row_table.specs.View.{slices}
use Rattle.yq_places.{proofs.NodeAtLaws.lines_place, proofs.WalkNodes.no_steps}
use Rattle.yq_places.proofs.places.node_place.line_place.Goals as goal

pub returns-clause-agrees : goal.returns-clause-agrees
returns-clause-agrees c = λ h l is.
    let d = c.args.walk.now.document in
    let k = located c.args.walk.now.rows.now d h c.args.at c.requires.at in
    let floor : c.level_at.result ≡ level l = c.level_at.ensures (slices k.row) k.pieces ∙ (sym k.level_agrees ∙ ap level (same_Some _ _ (sym k.is ∙ is))) in
    lines_place (line_number d h.rows c.args.at) (line_number d h.rows c.next.result) c.level_at.result (map tree_step c.args.left.now) l
    (no_steps (map tree_step c.args.left.now) (c.if-not-is_empty.ensures ∙ sym (ap (λ n. eqb n 0) (length-map c.args.left.now tree_step)))) (c.if-has_head.ensures h l is) (c.next.ensures.number h) floor
