use Rattle.std.{proofs.Common.arith, proofs.lemmas.Bool.ltb-true}
use Rattle.yq_row_table.specs.View.{bound_view}
use Rattle.yq_lookup.proofs.DocumentFronts.{view_first_stays}
use Rattle.yq_lookup.proofs.known_document.begins_with_row.Goals as goal

pub returns : goal.returns
returns c = λ some. view_first_stays c.args.rows.now c.args.front (bound_view c.part.result) c.part.ensures (ltb-true 0 c.part.result.rows some) (omega (arith, c.start.ensures, c.if-start-front.false))
