use Rattle.yq_places.proofs.PieceExists.{contents_exist, entries_exist}
use Rattle.yq_lookup.proofs.laws.pieces_exist.Goals as goal

pub returns-clause-contents : goal.returns-clause-contents
returns-clause-contents c = contents_exist

pub returns-clause-entries : goal.returns-clause-entries
returns-clause-entries c = entries_exist
