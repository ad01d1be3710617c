use Rattle.std.proofs.Common.{true}
use Rattle.yq_core.{proofs.BlockRepairLaws.{repair_ends, repair_comments}, proofs.BlockRepairText.repair_is_there}
use Rattle.yq_scalar.proofs.block_laws.repaired.Goals as goal

pub returns-clause-is_located : goal.returns-clause-is_located
returns-clause-is_located c least column b old gap rest block h =
    repair_is_there least column b old gap rest block h.lines.is_gap h.broken h.lines.after h.lines.lower

pub returns-clause-ends : goal.returns-clause-ends
returns-clause-ends c keep indent column gap rest h = repair_ends keep indent column gap rest h.is_gap h.after h.lower

pub returns-clause-comments : goal.returns-clause-comments
returns-clause-comments c = λ keep indent column gap h. repair_comments keep (record { columns = indent; known = true }) column gap h
