use Rattle.std.proofs.Common.{ap, sym, ◌∙◌}
use Rattle.yq_core.{specs.BlockWritten.header_text, proofs.BlockWrittenHeader.chomping_is}
use Rattle.yq_scalar.proofs.block_written.write_block.Goals as goal

pub returns-in-Ok-clause-header : goal.returns-in-Ok-clause-header
returns-in-Ok-clause-header c = c.header_text.ensures ∙ ap header_text (sym (chomping_is c.args.text.now c.ends_in_feed.result (rw c.as_bytes.ensures.value at c.ends_in_feed.ensures)))
