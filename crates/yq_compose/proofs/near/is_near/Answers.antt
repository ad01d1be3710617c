use Rattle.std.proofs.Common.{arith, sym, ap, ◌-◌, ◌∙◌}
use Rattle.yq_core.specs.Anchors.{Anchors}
use Rattle.yq_compose.{specs.Named.name_view, proofs.NearLaws.{equal_names, named_here}}
use Rattle.yq_compose.proofs.near.is_near.Goals as goal

pub returns-then-eq : goal.returns-then-eq
returns-then-eq c = λ yes.
    let i = c.args.at - c.back.back in (
      i,
      omega (arith, c.back.auto.back, c.if-at-back.false),
      named_here c.args.names.now i _ (Anchors c.args.wanted.now) (omega (arith, c.back.auto.back, c.if-at-back.false, c.requires))
          (ap name_view c.in-Anchors.is ∙ ap Anchors (equal_names c.in-Anchors.name.now c.args.wanted.now (sym c.if-eq.ensures))),
    )
