use Rattle.std.proofs.Common.{◌-◌, cond, Some, refl, ap, ◌∙◌, arith, rules}
use Rattle.yq_outline.{specs.Lines.lines_of_rows, specs.Positions.has_no_mark, proofs.EndsLaws.{deeper_line, not_end}}
use Rattle.yq_outline.{specs.RowWalk.{line_number, lines_stop}, proofs.WalkPositions.{located, position_line}}
use Rattle.yq_places.{specs.EntryReading.{head_extent, line_head, lines_place}, proofs.WalkNodes.{first_here, none_here, row_known}}
use Rattle.yq_places.proofs.places.content_place.lines_content.Goals as goal

pub returns-then-not-is_deeper : goal.returns-then-not-is_deeper
returns-then-not-is_deeper c = search (rules, none_here)

pub is_bare-requires-clause-position : goal.is_bare-requires-clause-position
is_bare-requires-clause-position c = position_line c.args.walk.now.rows.now c.args.walk.now.document c.args.from c.requires.from (c.if-not-is_deeper.ensures.some refl)

pub head_extent-requires-clause-within : goal.head_extent-requires-clause-within
head_extent-requires-clause-within c = omega (arith, c.if-not-is_deeper.ensures.some refl, c.requires.walk.document.are_there.within)

pub returns-then-is_bare : goal.returns-then-is_bare
returns-then-is_bare c = λ cut k.
    let d = c.args.walk.now.document in
    let rs = k.document.are_there.rows in
    let n = line_number d rs c.args.from in
    let m = lines_stop n c.args.floor (lines_of_rows rs) in
    let at = position_line c.args.walk.now.rows.now d c.args.from c.requires.from (c.if-not-is_deeper.ensures.some refl) in
    let l = located c.args.walk.now.rows.now d k.document.are_there c.args.from at in
    row_known c.args.walk.now.rows.now d cut k c.args.from at (λ i r. Some (head_extent i r cut)) _ (λ r is. ap Some (c.head_extent.ensures k.text cut k.cut k.rows r is))
    ∙ (ap (λ b. cond b (line_head d.first cut rs n) (lines_place d.first cut rs n (m - 1))) (c.if-is_bare.ensures k.document.are_there l.line l.is)
    ∙ first_here (lines_of_rows rs) n c.args.floor (λ l. cond (has_no_mark l.mark) (line_head d.first cut rs n) (lines_place d.first cut rs n (m - 1))) l.line l.is (c.if-not-is_deeper.ensures.test k.document.are_there))

pub after_all-to-requires-clause-from : goal.after_all-to-requires-clause-from
after_all-to-requires-clause-from c = position_line c.args.walk.now.rows.now c.args.walk.now.document c.args.from c.requires.from (c.if-not-is_deeper.ensures.some refl)

pub after_all-to-requires-clause-deeper : goal.after_all-to-requires-clause-deeper
after_all-to-requires-clause-deeper c = λ h l is. deeper_line (lines_of_rows h.rows) (line_number c.args.walk.now.document h.rows c.args.from) c.args.floor l is (not_end _ (c.if-not-is_deeper.ensures.test h))

pub lines_place-requires-clause-lines : goal.lines_place-requires-clause-lines
lines_place-requires-clause-lines c = search (rules, arith)

pub returns : goal.returns
returns c = λ cut k.
    let d = c.args.walk.now.document in
    let rs = k.document.are_there.rows in
    let n = line_number d rs c.args.from in
    let m = lines_stop n c.args.floor (lines_of_rows rs) in
    let at = position_line c.args.walk.now.rows.now d c.args.from c.requires.from (c.if-not-is_deeper.ensures.some refl) in
    let l = located c.args.walk.now.rows.now d k.document.are_there c.args.from at in
    c.lines_place.ensures cut k
    ∙ (ap (λ j. lines_place d.first cut rs n (j - 1)) (c.after_all-to.ensures.number k.document.are_there)
    ∙ (ap (λ b. cond b (line_head d.first cut rs n) (lines_place d.first cut rs n (m - 1))) (c.if-is_bare.ensures k.document.are_there l.line l.is)
    ∙ first_here (lines_of_rows rs) n c.args.floor (λ l. cond (has_no_mark l.mark) (line_head d.first cut rs n) (lines_place d.first cut rs n (m - 1))) l.line l.is (c.if-not-is_deeper.ensures.test k.document.are_there)))
