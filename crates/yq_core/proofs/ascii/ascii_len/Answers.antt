use Rattle.std.proofs.Common.{arith, refl}
use Rattle.yq_core.{specs.Runs.is_ascii_byte, proofs.RunLaws.block_over}
use Rattle.yq_core.proofs.ascii.ascii_len.Goals as goal

pub lanes-preserved : goal.lanes-preserved
lanes-preserved c =
    let on = block_over 64 is_ascii_byte c.args.text.now c.lanes.at (omega arith) (c.if-not-is_ascii_block.ensures refl) in
    record { within = omega arith; so_far = omega (arith, on, c.lanes.invariant.so_far) }

pub returns-then-not-is_ascii_block-clause-value : goal.returns-then-not-is_ascii_block-clause-value
returns-then-not-is_ascii_block-clause-value c = omega (arith, c.lanes.invariant.so_far)

pub returns-clause-value : goal.returns-clause-value
returns-clause-value c = omega (arith, c.lanes.invariant.so_far)
