use Rattle.yq_row_table.proofs.PlaceLaws.{new_place, place}
use Rattle.yq_rows.proofs.laws.content_place.Goals as goal

pub returns-clause-old : goal.returns-clause-old
returns-clause-old c x h = place x.cut x.index x.row h

pub returns-clause-new : goal.returns-clause-new
returns-clause-new c x new h = new_place x.cut x.index x.row new h
