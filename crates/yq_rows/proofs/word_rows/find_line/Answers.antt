use Rattle.std.proofs.Common.{sym, ap, ◌∙◌, not}
use Rattle.yq_core.specs.Scalars.{is_quoted}
use Rattle.yq_row_table.proofs.ScalarSlicing.{scalar_some}
use Rattle.yq_rows.proofs.word_rows.find_line.Goals as goal

pub returns-clause-scalar : goal.returns-clause-scalar
returns-clause-scalar c = λ n t other scalar read.
    scalar_some n c.args.space.now t c.args.head.now c.args.after.now c.in_ok-tail.tail.now c.in_ok-tail.rest.now _ c.may_be_alone.result other
    scalar read (sym c.in_ok-tail.ensures) (ap not (c.is_quoted.ensures ∙ ap is_quoted c.as_bytes.ensures.value)) c.may_be_alone.ensures
