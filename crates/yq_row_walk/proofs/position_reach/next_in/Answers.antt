use Rattle.std.{proofs.Common.{Some, sym}, proofs.lemmas.Option.slice_get_within}
use Rattle.yq_core.specs.Entries.{tree_step}
use Rattle.yq_outline.{specs.Lines.lines_of_rows, proofs.PathLines.step_line, specs.RowWalk.line_number, proofs.WalkPositions.located}
use Rattle.yq_row_walk.proofs.position_reach.next_in.Goals as goal

pub returns-clause-found : goal.returns-clause-found
returns-clause-found c = λ h ss.
    let ls = lines_of_rows h.are_there.rows in
    let k = located c.args.walk.now.rows.now c.args.walk.now.document h.are_there c.in_ok-at.at c.in_ok-at.ensures.within in
    let n = line_number c.args.walk.now.document h.are_there.rows c.in_ok-at.at in
    step_line ls (line_number c.args.walk.now.document h.are_there.rows c.args.under) c.args.floor (tree_step c.args.step.now) ss (Some n)
    (sym (c.if-begins_with_node.ensures.test h.are_there)) (c.in_ok-at.ensures.found h) (slice_get_within ls n k.line k.is)
