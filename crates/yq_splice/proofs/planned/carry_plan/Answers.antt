use Rattle.std.proofs.Common.{ℕ, List, Some, ap, ◌∙◌}
use Rattle.yq_documents.specs.Reading.{cut_of}
use Rattle.yq_row_table.specs.View.{rows_view}
use Rattle.yq_splice.proofs.planned.carry_plan.Goals as goal

pub carry_on_rows-requires-clause-rows : goal.carry_on_rows-requires-clause-rows
carry_on_rows-requires-clause-rows c = c.into_rows-rows.ensures ∙ ap (λ (t : List ℕ). rows_view (cut_of t)) c.requires.same

pub carry_on_rows-requires-clause-read : goal.carry_on_rows-requires-clause-read
carry_on_rows-requires-clause-read c = c.requires.read ∙ ap (λ (t : List ℕ). Some (cut_of t)) c.requires.same
