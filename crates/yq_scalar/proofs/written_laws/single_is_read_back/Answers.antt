use Rattle.yq_core.proofs.ReadBackLaws.{single_back}
use Rattle.yq_scalar.proofs.written_laws.single_is_read_back.Goals as goal

pub returns : goal.returns
returns c s place before rest h next = single_back s place before rest h.utf8 h.writable next
