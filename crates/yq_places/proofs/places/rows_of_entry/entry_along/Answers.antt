use Rattle.std.proofs.Common.{map}
use Rattle.yq_core.specs.Entries.{tree_step}
use Rattle.yq_places.proofs.EntryNumbers.{entry_row_agrees, none_along}
use Rattle.yq_places.proofs.places.rows_of_entry.entry_along.Goals as goal

pub returns-in_err-at : goal.returns-in_err-at
returns-in_err-at c = rw c.from_residual.ensures (λ h. none_along c.args.walk.now.document.first h.are_there.rows (map tree_step c.args.steps.now) (c.in_err-at.ensures.found h))

pub returns : goal.returns
returns c = λ h.
    entry_row_agrees c.args.walk.now.rows.now c.args.walk.now.document h.are_there c.in_ok-at.at c.in_ok-at.ensures.within
    (map tree_step c.args.steps.now) c.level_at-level.result c.lines_before_mark-dashes.result c.following_row.result c.level_at-level.ensures
    c.lines_before_mark-dashes.ensures c.following_row.ensures (c.in_ok-at.ensures.found h)
