use Rattle.std.proofs.Common.{arith, ap, sym, ◌∙◌}
use Rattle.yq_core.{specs.Nodes.begins_with, proofs.Bounds.boundary_first}
use Rattle.yq_row_table.proofs.WordFronts.{feed_tail}
use Rattle.yq_rows.proofs.content.find_tail.Goals as goal

pub split_at-requires : goal.split_at-requires
split_at-requires c = boundary_first c.args.text.now 10 (omega arith) (ap (begins_with 10) (sym c.as_bytes.ensures.value) ∙ (sym c.first_is.ensures ∙ c.if-first_is.true)) c.utf8.text

pub returns-then-first_is : goal.returns-then-first_is
returns-then-first_is c = rw (c.split_at.ensures.front, c.split_at.ensures.back) (sym (feed_tail c.args.text.now (ap (begins_with 10) (sym c.as_bytes.ensures.value) ∙ (sym c.first_is.ensures ∙ c.if-first_is.true))))
