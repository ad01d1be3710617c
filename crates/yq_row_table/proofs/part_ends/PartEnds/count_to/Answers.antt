use Rattle.std.proofs.Common.{◌≤◌, ◌<◌, ◌+◌, ◌-◌, ◌/◌, arith}
use Rattle.yq_row_table.{proofs.PartEndsLaws.{ends_failed, ends_passed}, specs.PartEnds.measure_of}
use Rattle.yq_row_table.proofs.part_ends.PartEnds.count_to.Goals as goal

pub ends-preserved-then-measure-most : goal.ends-preserved-then-measure-most
ends-preserved-then-measure-most c =
    let small : measure_of c.args.by c.at.result ≤ c.args.most = omega (arith, c.measure.ensures, c.if-measure-most.true) in
    record {
      order = omega (arith, c.ends-test.true);
      within = c.ends.invariant.within;
      below = λ rise. ends_passed c.args.by c.args.most (c.ends.low + (c.ends.high - c.ends.low) / 2) c.args.self.now c.at.result c.at.ensures small rise;
      above = c.ends.invariant.above;
    }

pub ends-preserved : goal.ends-preserved
ends-preserved c =
    let large : c.args.most < measure_of c.args.by c.at.result = omega (arith, c.measure.ensures, c.if-measure-most.false) in
    record {
      order = omega arith;
      within = omega (arith, c.ends-test.true, c.ends.invariant.within);
      below = c.ends.invariant.below;
      above = λ rise. ends_failed c.args.by c.args.most (c.ends.low + (c.ends.high - c.ends.low) / 2) c.args.self.now c.at.result c.at.ensures large rise;
    }
