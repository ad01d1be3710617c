use Rattle.yq_commands.proofs.EditingLaws.{no_utf8_fault, not_read}
use Rattle.yq_commands.proofs.reading.utf8_text.Goals as goal

pub returns-in-Err-clause-none : goal.returns-in-Err-clause-none
returns-in-Err-clause-none c = not_read c.args.bytes.now c.in-Err.ensures.utf8.0

pub returns-in-Err-clause-err : goal.returns-in-Err-clause-err
returns-in-Err-clause-err c = no_utf8_fault c.args.bytes.now c.in-Err.fault c.in-Err.ensures.utf8.0 c.in-Err.ensures.utf8.1
