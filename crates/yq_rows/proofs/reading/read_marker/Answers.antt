use Rattle.std.proofs.Common.{rules, sym}
use Rattle.yq_row_table.proofs.PartSlicing.{marker_within, marker_boundary, marker_some}
use Rattle.yq_rows.proofs.reading.read_marker.Goals as goal

pub overflow_sub-text : goal.overflow_sub-text
overflow_sub-text c = marker_within c.args.text.now c.split_at.result.1.now _ c.in-Some.rest.now c.split_at.ensures.back (sym c.in-Some.ensures)

pub split_at-requires-in-Some : goal.split_at-requires-in-Some
split_at-requires-in-Some c = marker_boundary c.args.text.now c.split_at.result.1.now _ c.in-Some.rest.now c.split_at.ensures.back (sym c.in-Some.ensures) (search rules)

pub returns-in-Some-clause-read : goal.returns-in-Some-clause-read
returns-in-Some-clause-read c = marker_some c.args.text.now c.split_at.result.1.now _ c.in-Some.rest.now _ c.split_at.ensures.back (sym c.in-Some.ensures) c.split_at-in-Some.ensures.front
