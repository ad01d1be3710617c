use Rattle.std.{proofs.Common.{arith, subst}, specs.Prelude.IfSome}
use Rattle.yq_lookup.specs.Knowledge.{IsFrontLine}
use Rattle.yq_lookup.proofs.line_above.line_in_part.Goals as goal

pub returns : goal.returns
returns c =
    let is : IsFrontLine c.args.rows.now c.in_ok-document.field-0 = subst (λ o. IfSome o (IsFrontLine c.args.rows.now)) c.in_ok-document.was c.requires in
    is c.part-end.result.rows (omega (arith, c.if-at-end.false))
