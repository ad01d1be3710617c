use Rattle.std.{proofs.Common.{refl, sym}, proofs.lemmas.Option.same_Some}
use Rattle.yq_rows.proofs.ReadLaws.{comes, ends_read, no_fault, part_edge, parted}
use Rattle.yq_rows.proofs.session_reading.read.Goals as goal

pub read_part-text-requires : goal.read_part-text-requires
read_part-text-requires c = part_edge c.args.region.now c.args.touched c.requires c.unread-unread.result c.unread-unread.ensures

pub unreachable-requires : goal.unreachable-requires
unreachable-requires c =
    let k = parted c.args.region.now c.read_part-text.result.now c.args.touched c.requires c.unread-unread.result c.read_part-text.ensures c.unread-unread.ensures in
    no_fault _ _ _ c.in-Err-Fault.field-0-is (c.in-Err-Fault.ensures.alone k.items k.back k.read k.text_is)

pub settle-requires : goal.settle-requires
settle-requires c =
    let k = parted c.args.region.now c.read_part-text.result.now c.args.touched c.requires c.unread-unread.result c.read_part-text.ensures c.unread-unread.ensures in
    let read = c.in-Ok.ensures.alone k.items k.back k.read k.text_is in
    ends_read c.args.region.now _ c.args.touched c.unread-unread.result c.into_places-places.result c.in-Ok.rows c.requires k c.into_places-places.ensures (sym (same_Some _ _ read))

pub returns-clause-come : goal.returns-clause-come
returns-clause-come c h =
    let k = parted c.args.region.now c.read_part-text.result.now c.args.touched h c.unread-unread.result c.read_part-text.ensures c.unread-unread.ensures in
    let read = c.in-Ok.ensures.alone k.items k.back k.read k.text_is in
    comes c.args.region.now c.read_part-text.result.now c.args.touched c.unread-unread.result c.into_places-places.result c.in-Ok.rows
    c.settle.new.ends _ h k c.into_places-places.ensures (sym (same_Some _ _ read)) c.settle.ensures refl refl refl refl refl
    c.read_part-text.ensures
