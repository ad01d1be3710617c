use Rattle.std.proofs.Common.{◌≤◌, arith}
use Rattle.yq_core.proofs.Boundaries.{boundary_in_spaces}
use Rattle.yq_scalar.proofs.block_content.unindented.Goals.{then-indent, else-indent}
use Rattle.yq_scalar.proofs.block_content.unindented.Goals as goal

pub split_at-requires : goal.split_at-requires
split_at-requires c =
    let is = rw c.as_bytes.ensures.value at c.spaces_len-spaces.ensures.value in
    let few : c.if-indent.n ≤ c.spaces_len-spaces.result = elim c.if-indent.branch [ then-indent w ↦ omega (arith, w.n-is) | else-indent w ↦ omega (arith, w.n-is) ] in
    boundary_in_spaces c.args.line.now _ (omega (arith, is, few)) c.utf8.line
