use Rattle.std.proofs.Common.{◌∙◌, ap, reverse}
use Rattle.yq_row_table.specs.declared.places.Places.{Places}
use Rattle.yq_rows.{specs.Sides.first_byte, proofs.ItemPlaces.{after_in, front_in, moved_sides, placed_in}}
use Rattle.yq_rows.proofs.split.move_split.Goals as goal

pub move_rows-moved-requires-clause-within : goal.move_rows-moved-requires-clause-within
move_rows-moved-requires-clause-within c = front_in _ c.args.places.now c.len-len.result c.len-len.ensures c.requires

pub move_rows-moved-requires-clause-later : goal.move_rows-moved-requires-clause-later
move_rows-moved-requires-clause-later c = after_in _ c.args.places.now c.len-len.result c.len-len.ensures c.requires

pub returns-clause-placed : goal.returns-clause-placed
returns-clause-placed c =
    let m = c.move_rows-moved.new.places in
    let q : Places = record m { split = c.begin_of-places.result } in
    let split = c.begin_of-places.ensures ∙ ap (λ l. first_byte c.len-len.result (reverse l)) c.as_slice.ensures.value in
    placed_in _ q c.requires.cut c.requires.is_cut (moved_sides _ c.args.places.now q c.len-len.result c.len-len.ensures c.requires c.move_rows-moved.ensures.same c.move_rows-moved.ensures.ends c.move_rows-moved.ensures.later split)
