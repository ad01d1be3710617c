use Rattle.std.proofs.Common.{option_map, ap, ◌∙◌, sym, Some}
use Rattle.yq_core.specs.Entries.{tree_step}
use Rattle.yq_inline.specs.Neighbours.{around_view, passed_view}
use Rattle.yq_edit_laws.proofs.SoleInFlow.{sole_known}
use Rattle.yq_edit_laws.proofs.remove.sole_in_flow.Goals as goal

pub returns : goal.returns
returns c ss n found =
    let before = ap (option_map passed_view) (c.is_alone.ensures.before c.if-not-is_alone.false) in
    let next = ap (option_map (λ t. t.now)) (c.is_alone.ensures.next c.if-not-is_alone.false) in
    ap Some c.sole_kind.ensures ∙ sym (sole_known ss n (tree_step c.args.last.now) (around_view c.args.part) found before next)
