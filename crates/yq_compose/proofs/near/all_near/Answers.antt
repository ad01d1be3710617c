use Rattle.std.{proofs.Common.{arith, ap, refl}, proofs.lemmas.List.length-map}
use Rattle.yq_compose.{specs.Named.{all_named, name_view}, proofs.NearLaws.{bound_alias, bound_all, bound_anchor, bound_none, named_here}}
use Rattle.yq_compose.proofs.near.all_near.Goals.{in-Anchors, in-Refers+else-not-is_near}
use Rattle.yq_compose.proofs.near.all_near.Goals as goal

pub names-init : goal.names-init
names-init c = bound_none (all_named c.args.names.now)

pub names-preserved : goal.names-preserved
names-preserved c =
    let ns = c.args.names.now in
    elim c.match-named.branch [
      | in-Anchors w ↦ bound_anchor (all_named ns) c.names.at _ (named_here ns c.names.at _ _ c.names-test.true (ap name_view w.in-Anchors.is)) c.names.invariant
      | in-Refers+else-not-is_near w ↦ (let near = w.if-not-is_near.ensures refl in
          bound_alias (all_named ns) c.names.at near.0 _ (named_here ns c.names.at _ _ c.names-test.true (ap name_view w.in-Refers.is)) near.1 near.2 c.names.invariant)
    ]

pub returns : goal.returns
returns c = λ yes. bound_all (all_named c.args.names.now) c.names.at (omega (arith, length-map c.args.names.now name_view, c.names-test.false)) c.names.invariant
