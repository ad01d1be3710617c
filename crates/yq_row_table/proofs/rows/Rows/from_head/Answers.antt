use Rattle.std.{proofs.Common.{◌∙◌, sym}, proofs.lemmas.Option.same_Some}
use Rattle.yq_row_table.proofs.rows.Rows.from_head.Goals as goal

pub from_head-requires : goal.from_head-requires
from_head-requires c = c.found.ensures.cuts

pub returns : goal.returns
returns c = λ s is. c.from_head.ensures s (same_Some _ _ (sym is ∙ c.found.ensures.row))
