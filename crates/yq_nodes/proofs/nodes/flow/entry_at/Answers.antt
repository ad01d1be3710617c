use Rattle.std.proofs.Common.{arith, sym, ◌∙◌}
use Rattle.yq_documents.proofs.FlowLaws.{entry_found, entry_past, entry_missing}
use Rattle.yq_nodes.proofs.nodes.flow.entry_at.Goals as goal

pub returns-then-eq : goal.returns-then-eq
returns-then-eq c = entry_found c.args.key.now c.args.entries.now c.each.entry-index c.entry-item.result c.entry-item.result c.as_str-then-eq.result.now _ (omega (arith, c.each-test.true)) c.entry-item.is c.as_str-then-eq.ensures.value
    (rw (c.as_str-then-eq.ensures.value ∙ sym c.as_str.ensures.value) (sym c.eq.ensures ∙ c.if-eq.true)) c.each.invariant

pub each-preserved : goal.each-preserved
each-preserved c = entry_past c.args.key.now c.args.entries.now c.each.entry-index c.entry-item.result c.entry-item.result c.as_str.result.now _
    (omega (arith, c.each-test.true)) c.entry-item.is c.as_str.ensures.value (sym c.eq.ensures ∙ c.if-eq.false) c.each.invariant

pub returns : goal.returns
returns c = entry_missing c.args.key.now c.args.entries.now c.each.entry-index _ (omega (arith, c.each-test.false)) c.each.invariant
