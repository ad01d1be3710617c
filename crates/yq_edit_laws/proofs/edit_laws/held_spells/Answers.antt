use Rattle.yq_edit_rules.proofs.HeldPieces.{held_spells}
use Rattle.yq_edit_laws.proofs.edit_laws.held_spells.Goals as goal

pub returns : goal.returns
returns c = held_spells
