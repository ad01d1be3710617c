use Rattle.yq_core.proofs.ReadBackLaws.{plain_back}
use Rattle.yq_scalar.proofs.written_laws.plain_is_read_back.Goals as goal

pub returns : goal.returns
returns c s place n before rest h =
    plain_back s place n before rest h.text.utf8 h.text.plain.kind h.text.plain.writable h.ends
