use Rattle.std.proofs.Common.{◌+◌, [], drop, ap, sym, subst}
use Rattle.yq_core.specs.Anchors.{Anchors, Refers}
use Rattle.yq_compose.{specs.Named.{name_view, all_named}, proofs.NamedLaws.named_at}
use Rattle.yq_compose.proofs.bound.unbound_alias.Goals.{in-Anchors+in_ok-insert-in-Anchors, in-Refers+else-not-contains_key}
use Rattle.yq_outline.{specs.LinesReading.are_bound, proofs.BoundLaws.{Known, anchor_known, alias_known}}
use Rattle.yq_compose.proofs.bound.unbound_alias.Goals as goal

pub names-preserved : goal.names-preserved
names-preserved c =
    let ns = c.args.names.now in
    let all = are_bound [] (all_named ns) in
    let after = all_named (drop (c.names.at + 1) ns) in
    elim c.match-named.branch [
      | in-Anchors+in_ok-insert-in-Anchors w ↦
          let a = w.in-Anchors.name.now in
          let name_is = named_at ns c.names.at _ (Anchors a) c.names-test.true (ap name_view w.in-Anchors.is) in
          subst (λ m. Known m after all) (sym w.known-is) (anchor_known c.names.known w.insert.new.self a tt after all w.in_ok-insert-in-Anchors.ensures.updates (subst (λ x. Known c.names.known x all) name_is c.names.invariant))
      | in-Refers+else-not-contains_key w ↦
          let a = w.in-Refers.name.now in
          let name_is = named_at ns c.names.at _ (Refers a) c.names-test.true (ap name_view w.in-Refers.is) in
          subst (λ m. Known m after all) (sym w.known-is) (alias_known c.names.known a after all w.if-not-contains_key.ensures (subst (λ x. Known c.names.known x all) name_is c.names.invariant))
    ]
