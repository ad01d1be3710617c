use Rattle.std.proofs.Common.{ap, arith, sym, ◌∙◌, List}
use Rattle.yq_core.{specs.Paths.To, specs.Entries.flow_part_at, specs.View.entries_end}
use Rattle.yq_core.proofs.PathLoops.{Field, entry_found, entry_past, entry_missing}
use Rattle.yq_core.proofs.path.entry_at.Goals as goal

pub each-init : goal.each-init
each-init c = ap (λ (es : List Field). flow_part_at (To c.args.key.now) (entries_end es)) c.deref-entry-items.ensures.value

pub returns-then-eq : goal.returns-then-eq
returns-then-eq c = entry_found c.args.key.now c.deref-entry-items.result.now c.each.entry-index c.entry-item.result c.entry-item.result
    c.as_str-then-eq.result.now _ (omega (arith, c.each-test.true)) c.entry-item.is c.as_str-then-eq.ensures.value
    (rw (c.as_str-then-eq.ensures.value ∙ sym c.as_str.ensures.value) (sym c.eq.ensures ∙ c.if-eq.true)) c.each.invariant

pub each-preserved : goal.each-preserved
each-preserved c = entry_past c.args.key.now c.deref-entry-items.result.now c.each.entry-index c.entry-item.result c.entry-item.result
    c.as_str.result.now _ (omega (arith, c.each-test.true)) c.entry-item.is c.as_str.ensures.value (sym c.eq.ensures ∙ c.if-eq.false) c.each.invariant

pub returns : goal.returns
returns c = entry_missing c.args.key.now c.deref-entry-items.result.now c.each.entry-index _ (omega (arith, c.each-test.false)) c.each.invariant
