use Rattle.std.{proofs.Common.{arith, rules, w64}, proofs.lemmas.Int.to_z-of_z, proofs.lemmas.Str.IsCharBoundary-start}
use Rattle.yq_core.proofs.BlockFound.{block_of_text}
use Rattle.yq_row_table.proofs.BlockSlicing.{anchor_missing, block_read, head_boundary, tail_boundary, raw_boundary, block_some}
use Rattle.yq_row_table.proofs.BlockSlicing.{block_refused}
use Rattle.yq_rows.proofs.content.read_block_content.Goals as goal

pub returns-then-anchor-eq1-clause-read : goal.returns-then-anchor-eq1-clause-read
returns-then-anchor-eq1-clause-read c = anchor_missing c.args.parent c.args.space.now c.args.text.now _ _ _ c.split_apart.ensures c.if-anchor-eq1.true

pub read_block-requires : goal.read_block-requires
read_block-requires c = IsCharBoundary-start c.split_apart.result.2.now (search rules)

pub block_fault-requires : goal.block_fault-requires
block_fault-requires c = block_of_text c.in-Err.kind c.in-Err.ensures.fault

pub returns-in-Err-clause-read : goal.returns-in-Err-clause-read
returns-in-Err-clause-read c = block_refused c.args.parent c.args.space.now c.args.text.now _ _ _ c.split_apart.ensures c.if-anchor-eq1.false (rw (to_z-of_z w64 c.args.parent c.ranges.parent) at c.in-Err.ensures.exact)

pub split_at-requires : goal.split_at-requires
split_at-requires c = head_boundary c.args.parent c.split_apart.result.2.now c.in-Ok.piece (block_read c.args.parent c.split_apart.result.2.now c.in-Ok.piece (rw (to_z-of_z w64 c.args.parent c.ranges.parent) at c.in-Ok.ensures.exact))

pub split_at-requires-2 : goal.split_at-requires-2
split_at-requires-2 c =
    tail_boundary c.args.parent c.split_apart.result.2.now c.split_at.result.1.now c.in-Ok.piece
    (block_read c.args.parent c.split_apart.result.2.now c.in-Ok.piece (rw (to_z-of_z w64 c.args.parent c.ranges.parent) at c.in-Ok.ensures.exact))
    c.split_at.ensures.back (search rules)

pub split_at-requires-3 : goal.split_at-requires-3
split_at-requires-3 c =
    raw_boundary c.args.parent c.split_apart.result.2.now c.split_at.result.1.now c.split_at-2.result.1.now c.in-Ok.piece
    (block_read c.args.parent c.split_apart.result.2.now c.in-Ok.piece (rw (to_z-of_z w64 c.args.parent c.ranges.parent) at c.in-Ok.ensures.exact))
    c.split_at.ensures.back c.split_at-2.ensures.back (search rules)

pub returns-clause-read : goal.returns-clause-read
returns-clause-read c =
    block_some c.args.parent c.args.space.now c.args.text.now _ _ _ _ _ _ _ _ _ c.in-Ok.piece c.split_apart.ensures c.if-anchor-eq1.false (rw (to_z-of_z w64 c.args.parent c.ranges.parent) at c.in-Ok.ensures.exact)
    c.split_at.ensures.front c.split_at.ensures.back c.split_at-2.ensures.front c.split_at-2.ensures.back c.split_at-3.ensures.front c.split_at-3.ensures.back

pub overflow_sub-piece : goal.overflow_sub-piece
overflow_sub-piece c =
    let read = block_read c.args.parent c.split_apart.result.2.now c.in-Ok.piece (rw (to_z-of_z w64 c.args.parent c.ranges.parent) at c.in-Ok.ensures.exact) in
    omega (arith, read.head_end, read.raw_start)

pub overflow_sub-piece-2 : goal.overflow_sub-piece-2
overflow_sub-piece-2 c =
    let read = block_read c.args.parent c.split_apart.result.2.now c.in-Ok.piece (rw (to_z-of_z w64 c.args.parent c.ranges.parent) at c.in-Ok.ensures.exact) in
    omega (arith, read.raw_start, read.end)

pub returns-clause-known : goal.returns-clause-known
returns-clause-known c = λ more. absurd (omega (arith, more))
