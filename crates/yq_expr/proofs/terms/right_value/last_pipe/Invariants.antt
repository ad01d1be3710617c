use Rattle.std.proofs.Common.{◌≤◌, length}
use Rattle.yq_expr.proofs.terms.right_value.last_pipe.Given as goal

abbrev pub invariant-terms : goal.invariant-terms
invariant-terms l = length l.rest ≤ length l.terms

abbrev pub decreases-terms : goal.decreases-terms
decreases-terms l = length l.rest
