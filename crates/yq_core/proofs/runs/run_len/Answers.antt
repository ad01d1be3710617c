use Rattle.std.proofs.Common.{arith}
use Rattle.yq_core.{specs.Runs.run_goes_on, proofs.RunLaws.{run_ends, run_over}}
use Rattle.yq_core.proofs.runs.run_len.Goals as goal

pub returns-then-len-lt16-clause-value : goal.returns-then-len-lt16-clause-value
returns-then-len-lt16-clause-value c =
    let at = run_ends (run_goes_on c.args.run) c.args.text.now c.lanes.at (omega arith) (omega (arith, c.lanes_len-len.ensures)) in
    omega (arith, at, c.lanes_len-len.ensures, c.lanes.invariant.so_far)

pub lanes-preserved : goal.lanes-preserved
lanes-preserved c =
    let on = run_over (run_goes_on c.args.run) c.args.text.now c.lanes.at (omega arith) (omega (arith, c.lanes_len-len.ensures)) in
    record { within = omega arith; so_far = omega (arith, on, c.lanes.invariant.so_far) }
