use Rattle.yq_core.proofs.ReadBackLaws.{double_back}
use Rattle.yq_scalar.proofs.written_laws.double_is_read_back.Goals as goal

pub returns : goal.returns
returns c s place before rest h = double_back s place before rest h.utf8 h.writable
