use Rattle.yq_commands.proofs.words.command_of.Goals as goal

pub returns-in-Err-clause-err : goal.returns-in-Err-clause-err
returns-in-Err-clause-err c = (c.in-Err.error, c.words_fault.ensures, c.in-Err.ensures.err)
