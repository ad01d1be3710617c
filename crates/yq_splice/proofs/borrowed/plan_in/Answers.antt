use Rattle.std.proofs.Common.{List, ℕ, ◌∙◌, subst}
use Rattle.yq_splice.{specs.Session.Knows, proofs.SessionLaws.known_here}
use Rattle.yq_splice.proofs.borrowed.plan_in.Goals as goal

pub returns-clause-known : goal.returns-clause-known
returns-clause-known c =
    subst (λ (x : List ℕ). Knows x c.known_before.result) (c.plan_by_rows-planned.ensures.same ∙ c.resumed-cut.ensures)
    (known_here _ c.plan_by_rows-planned.new.cut c.known_before.result c.known_before.ensures.known)
