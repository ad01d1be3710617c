use Rattle.yq_places.{proofs.PieceBegins.contents_begin, proofs.PieceSpelling.contents_spell}
use Rattle.yq_lookup.proofs.laws.contents_spell.Goals as goal

pub returns-clause-spelled : goal.returns-clause-spelled
returns-clause-spelled c = contents_spell

pub returns-clause-begins : goal.returns-clause-begins
returns-clause-begins c = contents_begin
