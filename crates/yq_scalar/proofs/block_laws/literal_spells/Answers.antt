use Rattle.yq_core.proofs.LiteralText.{literal_block, literal_content}
use Rattle.yq_scalar.proofs.block_laws.literal_spells.Goals as goal

pub returns-clause-block : goal.returns-clause-block
returns-clause-block c least x rest h =
    literal_block least x.columns x.break x.scalar x.tail rest h.written.utf8 h.written.writable h.indented h.tail_is h.ends

pub returns-clause-content : goal.returns-clause-content
returns-clause-content c x h = literal_content x.columns x.break x.scalar x.tail h.utf8 h.writable
