use Rattle.std.{proofs.Common.{option_map, Some, ◌+◌, ℕ, length, refl, sym, ap, ◌∙◌, subst, arith}, specs.Str.IsUtf8}
use Rattle.yq_places.specs.PlacementViews.{piece_view}
use Rattle.yq_batch.proofs.RowHeadLaws.{above_fits, head_comment_puts_there}
use Rattle.yq_batch.proofs.row_put.comment_above_row.Goals as goal

pub len-start-requires : goal.len-start-requires
len-start-requires c =
    let is = sym (ap (option_map (λ x. (x.0, piece_view x.1))) c.in-Some-lines_above_from.is) ∙ c.lines_above_from.ensures in
    omega (arith, above_fits c.args.cut.now c.args.path.now (c.in-Some-lines_above_from.column, piece_view c.in-Some-lines_above_from.above) c.text_reads.ensures is)

pub overflow_add-result : goal.overflow_add-result
overflow_add-result c =
    let is = sym (ap (option_map (λ x. (x.0, piece_view x.1))) c.in-Some-lines_above_from.is) ∙ c.lines_above_from.ensures in
    omega (arith, above_fits c.args.cut.now c.args.path.now (c.in-Some-lines_above_from.column, piece_view c.in-Some-lines_above_from.above) c.text_reads.ensures is, c.len-start.ensures)

pub returns : goal.returns
returns c =
    let above = c.in-Some-lines_above_from.above in
    let line = c.in-Some.ensures in
    let is = sym (ap (option_map (λ x. (x.0, piece_view x.1))) c.in-Some-lines_above_from.is) ∙ c.lines_above_from.ensures in
    head_comment_puts_there c.args.cut.now c.args.path.now c.args.text.now c.in-Some.at (c.in-Some-lines_above_from.column, piece_view above) _ c.text_reads.ensures line is c.requires.operand
    (subst IsUtf8 c.of-run.ensures.whole c.is_text.ensures) c.is_text-2.ensures refl refl refl c.len-start.ensures (ap (λ (n : ℕ). n + length above.text.now) c.len-start.ensures) (ap Some c.in_ok-written.ensures)
