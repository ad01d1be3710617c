use Rattle.std.proofs.Common.{arith}
use Rattle.yq_edit_laws.proofs.EntryIndexes.{index_leads}
use Rattle.yq_edit_laws.proofs.near.index_in.Goals as goal

pub returns : goal.returns
returns c = index_leads c.args.items.now.items c.in-Index.index c.args.step.now c.in-Index.is (omega (arith, c.len.ensures, c.if-index-len.false))
