use Rattle.yq_documents.proofs.HoldLaws.{cut_held, rows_held, view_held, sound_held}
use Rattle.yq_documents.proofs.documents.Documents.rows.Goals as goal

pub returns-clause-cut : goal.returns-clause-cut
returns-clause-cut c = cut_held c.self.invariant c.self.view_is

pub returns-clause-rows : goal.returns-clause-rows
returns-clause-rows c = rows_held c.self.invariant c.self.view_is

pub returns-clause-sound : goal.returns-clause-sound
returns-clause-sound c = sound_held c.self.invariant c.self.view_is

pub returns-clause-rows_view : goal.returns-clause-rows_view
returns-clause-rows_view c = view_held c.self.invariant c.self.view_is
