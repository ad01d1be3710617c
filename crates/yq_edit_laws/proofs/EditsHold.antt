-- What each operation exchanges carries it out, and one that fits has it: the laws of all kinds of edits together.
use Rattle.std.proofs.Common.{refl}
use Rattle.yq_places.specs.Placements.{alone, beside, under, compact, block, root, no_rows}
use Rattle.yq_edit_rules.{specs.EditLaws.{KindsCarryOut, EditsCarryOut, FittingHasEdit, ValuesArePut}, proofs.KeptLaws.equal_scalars_stay}
use Rattle.yq_edit_laws.{proofs.HeadCommentLaws.head_comment_is_put, proofs.LineCommentLaws.line_comment_is_put}
use Rattle.yq_edit_laws.{proofs.MoreLaws.more_is_put, proofs.RemovingFirstLaws.one_is_removed, proofs.FlowAppendLaws.flow_more_put}
use Rattle.yq_edit_laws.{proofs.FlowPutLaws.flow_values_put, proofs.FlowRemoveLaws.flow_part_removed, proofs.MoreExists.takers_have_edit}
use Rattle.yq_edit_laws.{proofs.SoleLaws.sole_removed, proofs.PlacementExists.{entries_are_there, roots_are_there}}
use Rattle.yq_edit_laws.{proofs.RootEditLaws.{first_nodes_are_put, roots_are_put}, proofs.MarkedValueLaws.marked_values}
use Rattle.yq_edit_laws.{proofs.FittingExists.fitting_has_edit, proofs.CarryOutLaws.edits_carry_out}

-- a value is put, whatever is at its place
values_are_put : ValuesArePut
values_are_put n steps v c (alone w) read at other = marked_values n steps v c (alone w) read at refl other
values_are_put n steps v c (beside h) read at other = marked_values n steps v c (beside h) read at refl other
values_are_put n steps v c (under h column) read at other = marked_values n steps v c (under h column) read at refl other
values_are_put n steps v c (compact m column w) read at other = marked_values n steps v c (compact m column w) read at refl other
values_are_put n steps v c (block h indent) read at other = marked_values n steps v c (block h indent) read at refl other
values_are_put n steps v c (root column w) read at other = roots_are_put n steps v c column w read at
values_are_put n steps v c (no_rows w) read at other = first_nodes_are_put n steps v c w read at

are_edits : KindsCarryOut
are_edits = record {
  values = values_are_put;
  flow_values = flow_values_put;
  equal = equal_scalars_stay;
  more = more_is_put;
  flow_more = flow_more_put;
  one = one_is_removed;
  flow_part = flow_part_removed;
  sole = sole_removed;
  line_comment = line_comment_is_put;
  head_comment = head_comment_is_put;
}

pub edit_is : EditsCarryOut
edit_is = edits_carry_out are_edits

pub edit_there : FittingHasEdit
edit_there = fitting_has_edit roots_are_there entries_are_there takers_have_edit
