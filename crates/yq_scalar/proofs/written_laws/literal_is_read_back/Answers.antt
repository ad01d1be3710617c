use Rattle.yq_core.proofs.ReadBackLaws.{literal_back}
use Rattle.yq_scalar.proofs.written_laws.literal_is_read_back.Goals as goal

pub returns : goal.returns
returns c n x before rest h =
    literal_back x.scalar n x.columns x.break before x.tail rest h.written.utf8 h.written.writable h.indented h.tail_is h.ends
