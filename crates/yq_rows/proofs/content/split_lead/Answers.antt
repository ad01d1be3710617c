use Rattle.yq_row_table.proofs.InlineSlicing.{lead_none, lead_some}
use Rattle.yq_rows.proofs.content.split_lead.Goals as goal

pub returns-then-nothing : goal.returns-then-nothing
returns-then-nothing c = lead_none c.args.nothing c.args.text.now c.if-nothing.true

pub returns-else-nothing : goal.returns-else-nothing
returns-else-nothing c = lead_some c.args.nothing c.args.text.now _ c.if-nothing.false c.split_white.ensures
