use Rattle.std.proofs.Common.{subst, rules}
use Rattle.yq_journal.{specs.Record.IsRecord, proofs.JoinLaws.IsRecord-join}
use Rattle.yq_journal.proofs.squash.RecordParts.join.Goals as goal

pub returns-clause-valid : goal.returns-clause-valid
returns-clause-valid c = λ h meets.
    let k : IsRecord c.args.next.now = subst IsRecord c.next.view_is c.next.invariant.valid in
    subst IsRecord (search rules) (IsRecord-join c.args.self.now c.args.next.now h k meets)
