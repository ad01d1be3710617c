use Rattle.std.proofs.Common.{◌∙◌}
use Rattle.yq_row_table.proofs.PlacedLaws.{have_places, placed_view}
use Rattle.yq_row_table.proofs.places.Places.rows.Goals as goal

pub of-requires : goal.of-requires
of-requires c = have_places c.args.text c.requires.placed.0 c.args.self c.requires.placed.1 c.requires.split c.requires.placed.2

pub returns : goal.returns
returns c d cut = c.of.ensures ∙ placed_view c.args.text c.requires.placed.0 d c.args.self c.requires.placed.1 cut c.requires.split c.requires.placed.2
