use Rattle.std.proofs.Common.{map, arith, sym}
use Rattle.yq_outline.proofs.KeyLaws.{entries_left}
use Rattle.yq_compose.proofs.inline_fault.+nested.Goals as goal

pub entries_fault-returns-then-not-are_distinct-clause-sound : goal.entries_fault-returns-then-not-are_distinct-clause-sound
entries_fault-returns-then-not-are_distinct-clause-sound t c =
    sym (entries_left c.args.depth c.each.entry-index c.deref-entry-items.result.now (map (λ k. k.now) c.each.keys.items) _ _
    (omega (arith, c.each-test.false)) c.each.invariant (rw c.as_mut_slice.ensures.value at c.if-not-are_distinct.ensures))

pub entries_fault-returns-clause-sound : goal.entries_fault-returns-clause-sound
entries_fault-returns-clause-sound t c =
    sym (entries_left c.args.depth c.each.entry-index c.deref-entry-items.result.now (map (λ k. k.now) c.each.keys.items) _ _
    (omega (arith, c.each-test.false)) c.each.invariant (rw c.as_mut_slice.ensures.value at c.if-not-are_distinct.ensures))
