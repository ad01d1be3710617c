use Rattle.std.proofs.Common.{cond, not, refl, sym, ap, ◌∙◌}
use Rattle.yq_outline.{specs.Lines.lines_of_rows, specs.Ends.{has_no_lines, part}, specs.RowWalk.line_number}
use Rattle.yq_outline.proofs.WalkPositions.{located, position_line}
use Rattle.yq_places.{specs.NodesAt.{list, map as mapping}, proofs.NodeAtLaws.collection_view}
use Rattle.yq_places.proofs.places.node_at.lines_node.Goals as goal

pub returns-then-is_item_at : goal.returns-then-is_item_at
returns-then-is_item_at c = λ h other.
    let d = c.args.walk.now.document in
    let k = located c.args.walk.now.rows.now d h c.args.under (position_line c.args.walk.now.rows.now d c.args.under c.requires.under (c.if-not-is_deeper.ensures.some refl)) in
    let several = not (has_no_lines (part (lines_of_rows h.rows) (line_number d h.rows c.position_after-others.result) c.args.floor)) in
    ap list (c.is_deeper-several.ensures.test h)
    ∙ sym (collection_view (lines_of_rows h.rows) (line_number d h.rows c.args.under) c.args.floor
    (line_number d h.rows c.position_after-others.result) k.line k.is (c.if-not-is_deeper.ensures.test h) other
    (c.position_after-others.ensures.end h)
    ∙ ap (λ b. cond b (list several) (mapping several)) (sym (c.if-is_item_at.ensures h k.line k.is)))

pub returns-else-is_item_at : goal.returns-else-is_item_at
returns-else-is_item_at c = λ h other.
    let d = c.args.walk.now.document in
    let k = located c.args.walk.now.rows.now d h c.args.under (position_line c.args.walk.now.rows.now d c.args.under c.requires.under (c.if-not-is_deeper.ensures.some refl)) in
    let several = not (has_no_lines (part (lines_of_rows h.rows) (line_number d h.rows c.position_after-others.result) c.args.floor)) in
    ap mapping (c.is_deeper-several.ensures.test h)
    ∙ sym (collection_view (lines_of_rows h.rows) (line_number d h.rows c.args.under) c.args.floor
    (line_number d h.rows c.position_after-others.result) k.line k.is (c.if-not-is_deeper.ensures.test h) other
    (c.position_after-others.ensures.end h)
    ∙ ap (λ b. cond b (list several) (mapping several)) (sym (c.if-is_item_at.ensures h k.line k.is)))
