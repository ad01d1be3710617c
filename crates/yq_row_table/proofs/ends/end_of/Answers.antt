use Rattle.std.proofs.Common.{rules}
use Rattle.yq_row_table.proofs.EndPlaceLaws.{end_is_located, start_is, end_lengths}
use Rattle.yq_row_table.proofs.ends.end_of.Goals as goal

pub returns-clause-is_located : goal.returns-clause-is_located
returns-clause-is_located c = search (rules, start_is, end_is_located)

pub overflow_cast-result-3 : goal.overflow_cast-result-3
overflow_cast-result-3 c = (end_lengths c.args.whole.now c.args.end.now c.args.marker.now c.args.rest.now c.requires.small c.requires.ends).marker_fits

pub overflow_cast-result-2 : goal.overflow_cast-result-2
overflow_cast-result-2 c = (end_lengths c.args.whole.now c.args.end.now c.args.marker.now c.args.rest.now c.requires.small c.requires.ends).end_fits
