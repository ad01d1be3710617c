use Rattle.std.proofs.Common.{◌≡◌, ap, rules}
use Rattle.yq_planner.proofs.SubstituteLaws.{scalar_for}
use Rattle.yq_planner.proofs.updating.substitute.for_scalar.Goals as goal
use Rattle.yq_core.specs.declared.kind.Kind.TheVariants as kinds

pub returns : goal.returns
returns c =
    let is : c.args.scalar.now.kind ≡ kinds.Text = search (rules, c.if-ne.ensures, c.kind.ensures.value) in
    scalar_for c.args.scalar.now.kind c.args.scalar.now.text c.string.result is (ap (λ s. s.kind) c.string.ensures)
