use Rattle.std.{proofs.Common.{arith, subst, sym, true≢false, rules}, proofs.lemmas.Slice.Eq.bytes_eq-Decides}
use Rattle.yq_history.{specs.DiffParts.ArePartsOf, specs.Unified.IsPrintedDiff, proofs.UnifiedLaws.{new_few, old_few, printed_diff}}
use Rattle.yq_history.proofs.diff.unified.unified_diff.Goals as goal

pub push_hunks-requires-clause-old : goal.push_hunks-requires-clause-old
push_hunks-requires-clause-old c = old_few c.deref-3.result.now c.args.old.now c.args.new.now (subst (λ ps. ArePartsOf ps c.args.old.now c.args.new.now) (sym c.deref-3.ensures.value) c.in_ok-parts.ensures) (omega arith)

pub push_hunks-requires-clause-new : goal.push_hunks-requires-clause-new
push_hunks-requires-clause-new c = new_few c.deref-3.result.now c.args.old.now c.args.new.now (subst (λ ps. ArePartsOf ps c.args.old.now c.args.new.now) (sym c.deref-3.ensures.value) c.in_ok-parts.ensures) (omega arith)

pub returns-then-eq : goal.returns-then-eq
returns-then-eq c =
    subst (IsPrintedDiff c.args.name.now c.args.old.now c.args.new.now) (sym c.new-printed.ensures.bytes)
    (search rules)

pub returns : goal.returns
returns c = search (rules, printed_diff, true≢false, bytes_eq-Decides)
