use Rattle.yq_places.{proofs.PieceHolds.pieces_hold, proofs.PieceSpelling.lines_are_in}
use Rattle.yq_lookup.proofs.laws.pieces_hold.Goals as goal

pub returns-clause-lines : goal.returns-clause-lines
returns-clause-lines c = lines_are_in

pub returns-clause-pieces : goal.returns-clause-pieces
returns-clause-pieces c = pieces_hold
