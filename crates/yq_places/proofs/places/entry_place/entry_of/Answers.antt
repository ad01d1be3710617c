use Rattle.std.{proofs.Common.{◌-◌, ℕ, Option, ap, ◌∙◌, arith, rules}, proofs.lemmas.Option.slice_get_within}
use Rattle.yq_core.specs.Answers.{◌>>=◌}
use Rattle.yq_outline.{specs.Lines.lines_of_rows, proofs.LineEnds.end_agrees, specs.RowWalk.line_number}
use Rattle.yq_outline.proofs.WalkPositions.{line_position, located}
use Rattle.yq_places.specs.EntryReading.{line_entry, lines_place}
use Rattle.yq_places.proofs.places.entry_place.entry_of.Goals as goal

pub returns-in_err-at : goal.returns-in_err-at
returns-in_err-at c = rw c.from_residual.ensures (λ cut k. ap (λ (o : Option ℕ). o >>= line_entry c.args.walk.now.document.first cut k.document.are_there.rows) (c.in_err-at.ensures.found k.document))

pub lines_place-requires-clause-lines : goal.lines_place-requires-clause-lines
lines_place-requires-clause-lines c = search (rules, arith, line_position)

pub returns : goal.returns
returns c = λ cut k.
    let d = c.args.walk.now.document in
    let rs = k.document.are_there.rows in
    let at = c.in_ok-at.at in
    let n = line_number d rs at in
    let l = located c.args.walk.now.rows.now d k.document.are_there at c.in_ok-at.ensures.within in
    c.lines_place.ensures cut k
    ∙ (ap (λ (m : ℕ). lines_place d.first cut rs n (m - 1)) (end_agrees (lines_of_rows rs) n (line_number d rs c.position_after-to.result) (slice_get_within _ _ l.line l.is) (c.position_after-to.ensures.end k.document.are_there))
    ∙ ap (λ (o : Option ℕ). o >>= line_entry d.first cut rs) (c.in_ok-at.ensures.found k.document))
