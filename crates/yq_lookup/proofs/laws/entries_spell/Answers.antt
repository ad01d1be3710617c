use Rattle.yq_places.proofs.PieceSpelling.{entries_spell}
use Rattle.yq_lookup.proofs.laws.entries_spell.Goals as goal

pub returns : goal.returns
returns c = entries_spell
