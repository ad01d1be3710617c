use Rattle.std.{proofs.Common.{◌-◌, map, arith}, proofs.lemmas.Option.slice_get_within}
use Rattle.yq_core.specs.Entries.{tree_step}
use Rattle.yq_outline.{specs.Lines.lines_of_rows, proofs.LineEnds.end_agrees, specs.RowWalk.line_number, proofs.WalkRows.rows_length}
use Rattle.yq_outline.proofs.WalkPositions.{located}
use Rattle.yq_places.{proofs.RemovalPlaceLaws.{no_own, not_own, own_agrees}, proofs.WalkDocuments.row_line_number}
use Rattle.yq_places.proofs.places.removal_place.own_rows.Goals as goal

pub returns-in_err-at : goal.returns-in_err-at
returns-in_err-at c = rw c.from_residual.ensures (λ h. no_own c.args.walk.now.document.first h.are_there.rows (map tree_step c.args.steps.now) (c.in_err-at.ensures.found h))

pub returns-then-at-ne0 : goal.returns-then-at-ne0
returns-then-at-ne0 c = λ h.
    let d = c.args.walk.now.document in
    let q = c.in_ok-at.at in
    let l = located c.args.walk.now.rows.now d h.are_there q c.in_ok-at.ensures.within in
    not_own d.first (line_number d h.are_there.rows q) h.are_there.rows (map tree_step c.args.steps.now) (record { before = q.row - d.first; row = l.row; line = q.line }) (c.in_ok-at.ensures.found h)
    (row_line_number h.are_there.rows (q.row - d.first) q.line l.row l.there l.within) (λ e. omega (arith, e, c.if-at-ne0.true))

pub returns : goal.returns
returns c = λ h.
    let d = c.args.walk.now.document in
    let q = c.in_ok-at.at in
    let e = c.position_after-end.result in
    let l = located c.args.walk.now.rows.now d h.are_there q c.in_ok-at.ensures.within in
    own_agrees d h.are_there.rows (map tree_step c.args.steps.now) q e l.row (c.in_ok-at.ensures.found h) l.there c.in_ok-at.ensures.within.from
    (omega (arith, c.if-at-ne0.false)) c.position_after-end.ensures.line c.position_after-end.ensures.later
    (omega (arith, rows_length c.args.walk.now.rows.now d h.are_there, c.position_after-end.ensures.position.upto))
    (end_agrees (lines_of_rows h.are_there.rows) (line_number d h.are_there.rows q) (line_number d h.are_there.rows e) (slice_get_within _ _ l.line l.is) (c.position_after-end.ensures.end h.are_there))
