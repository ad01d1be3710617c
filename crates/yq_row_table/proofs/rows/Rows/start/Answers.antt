use Rattle.yq_row_table.{proofs.KeptReads.kept_within, specs.RowStarts.row_start, specs.View.RowsView}
use Rattle.yq_row_table.proofs.KeptPlaces.{back_within, halves_small, start_back, start_front}
use Rattle.std.proofs.Common.{◌<◌, ◌∙◌, ap, arith, length, length-append, subst, sym}
use Rattle.yq_row_table.proofs.rows.Rows.start.Goals as goal

pub returns-then-i-len : goal.returns-then-i-len
returns-then-i-len c =
    let within = subst (λ (v : RowsView). c.args.i < length v.rows) (sym c.self.view_is) c.requires in
    c.start-start.ensures
    ∙ (start_front c.self.inside.text c.self.inside.places c.args.i c.kept.result.now c.self.invariant.0 within c.kept.ensures (omega (arith, c.self.inside.places.front.ok.0))
    ∙ ap (row_start c.args.i) c.self.view_is)

pub len-requires-2 : goal.len-requires-2
len-requires-2 c = let small = halves_small c.self.inside.text c.self.inside.places c.self.invariant.0 in omega (arith, small)

pub overflow_sub-result : goal.overflow_sub-result
overflow_sub-result c =
    let text = c.self.inside.text in
    let within = back_within text c.self.inside.places c.args.i c.kept.result.now c.self.invariant.0 c.kept.ensures (omega (arith, c.self.inside.places.front.ok.0)) in
    omega (arith, within, length-append text.front.now text.back.now)

pub returns : goal.returns
returns c =
    let within = subst (λ (v : RowsView). c.args.i < length v.rows) (sym c.self.view_is) c.requires in
    rw (c.len-2.ensures, c.start-start.ensures)
    (start_back c.self.inside.text c.self.inside.places c.args.i c.kept.result.now c.self.invariant.0 within c.kept.ensures (omega (arith, c.self.inside.places.front.ok.0))
    ∙ ap (row_start c.args.i) c.self.view_is)

pub kept-requires : goal.kept-requires
kept-requires c = kept_within c.self.inside.text c.self.inside.places c.args.i c.args.self.now c.self.view_is c.requires
