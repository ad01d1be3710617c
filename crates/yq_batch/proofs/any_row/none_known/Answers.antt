use Rattle.std.proofs.Common.{List, Option, sym, subst}
use Rattle.yq_batch.{specs.OpenRows.ArePutInRows, specs.declared.change.HeadChange.HeadChange, proofs.RowOpenAnswers.puts_more}
use Rattle.yq_batch.proofs.any_row.none_known.Goals as goal

pub each-preserved : goal.each-preserved
each-preserved c d m e ops =
    subst (λ (os : List (Option HeadChange)). ArePutInRows d m e ops os) (sym c.in_ok-push.ensures.items) (puts_more d m e ops c.each.changes.items (c.each.invariant d m e ops))
