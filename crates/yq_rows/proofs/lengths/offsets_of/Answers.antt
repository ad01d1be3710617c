use Rattle.std.proofs.Common.{◌∙◌, ap, arith, length, rules}
use Rattle.yq_rows.specs.ReadPieces.{read_slices}
use Rattle.yq_row_table.{proofs.FrontLaws.{front_join, front_le}, proofs.OffsetLaws.{row_same, row_is_there}, proofs.ParentLaws.row_known}
use Rattle.yq_row_table.{proofs.RowSlicing.row_spelled, proofs.SliceLaws.slices-length}
use Rattle.yq_row_table.specs.Offsets as spec
use Rattle.yq_rows.proofs.lengths.offsets_of.Goals as goal

pub measure-requires-clause-small : goal.measure-requires-clause-small
measure-requires-clause-small c =
    let h = c.requires.read in
    let spelled = ap length (h.joined ∙ row_spelled h.limit c.args.front.gap.now h.after _ _ _ h.read) in
    let long = slices-length (read_slices c.args.front.gap.now c.args.column c.args.begin.now c.args.content.now) c.args.content.now.rest.now in
    let within = front_le c.args.whole.now _ c.args.front.at.now (front_join c.args.whole.now c.args.front.at.now c.requires.ends) in
    omega (arith, spelled, long, within, c.requires.small)

pub measure-requires-clause-parent : goal.measure-requires-clause-parent
measure-requires-clause-parent c = let h = c.requires.read in row_known h.limit c.args.front.gap.now h.after _ _ _ h.read

pub returns-clause-is_located : goal.returns-clause-is_located
returns-clause-is_located c =
    let h = c.requires.read in
    rw c.measure.ensures.lengths
    (row_is_there c.args.whole.now c.args.front.at.now _ (read_slices c.args.front.gap.now c.args.column c.args.begin.now c.args.content.now) c.requires.ends
    (search rules) (h.joined ∙ row_spelled h.limit c.args.front.gap.now h.after _ _ _ h.read) c.measure.ensures.texts)

pub returns-clause-same : goal.returns-clause-same
returns-clause-same c =
    let h = c.requires.read in
    ap (spec.slices_in c.args.whole.now) c.measure.ensures.lengths
    ∙ row_same c.args.whole.now c.args.front.at.now _ (read_slices c.args.front.gap.now c.args.column c.args.begin.now c.args.content.now) c.requires.ends
    (h.joined ∙ row_spelled h.limit c.args.front.gap.now h.after _ _ _ h.read) c.measure.ensures.texts.parent

pub returns-clause-place : goal.returns-clause-place
returns-clause-place c = c.measure.ensures.lengths
