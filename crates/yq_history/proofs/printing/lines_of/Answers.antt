use Rattle.std.proofs.Common.{◌≡◌, ◌++◌, ◌+◌, nat_lt, sym, ap, ap₂, ◌∙◌}
use Rattle.yq_journal.specs.Record.{Record}
use Rattle.yq_history.{specs.Listing.edit_line, proofs.PrintLaws.lines_more}
use Rattle.yq_history.proofs.printing.lines_of.Goals as goal

pub records-preserved : goal.records-preserved
records-preserved c =
    let expr : c.deref.result.now ≡ c.record.result.now.expr = c.deref.ensures ∙ ap (λ (p : Record). p.expr) c.behind-state.view_is in
    let line = ap₂ (λ n e. edit_line (c.records.i + 1) (nat_lt c.records.i n) e) c.at.ensures expr in
    c.in_ok-push_edit_line.ensures ∙ ap₂ (λ a b. a ++ b) c.records.invariant line
    ∙ sym (lines_more c.args.state.now.at c.args.state.now.records c.records.i c.record.result.now c.record.ensures)
