use Rattle.yq_row_table.proofs.splices.ContentPlaces.{alone_exchanged}
use Rattle.yq_rows.proofs.laws.alone_exchanged.Goals as goal

pub returns : goal.returns
returns c x new h fits = alone_exchanged h.text x.cut x.index x.row new h.is_cut h.here fits
