use Rattle.std.proofs.Common.{ap, ◌∙◌}
use Rattle.yq_planner.specs.TakenNames.{is_used_anchor}
use Rattle.yq_planner.proofs.updating.anchors.is_named.Goals as goal

pub returns-in-Some : goal.returns-in-Some
returns-in-Some c = λ names h. c.contains_key.ensures ∙ (h c.in-Some.name.now ∙ ap (is_used_anchor names) c.in-Some.ensures)
