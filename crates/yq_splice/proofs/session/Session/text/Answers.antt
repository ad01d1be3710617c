use Rattle.std.proofs.Common.{subst}
use Rattle.yq_splice.{specs.Session.SessionState, proofs.SessionLaws.has_reading}
use Rattle.yq_edit_laws.specs.Theorems.{HasReading}
use Rattle.yq_splice.proofs.session.Session.text.Goals as goal

pub returns-clause-read : goal.returns-clause-read
returns-clause-read c = subst (λ (s : SessionState). HasReading s.text) c.self.view_is (has_reading _ c.self.invariant.0.cut c.self.invariant.0.read)
