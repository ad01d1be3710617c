use Rattle.yq_args.proofs.JournalNameLaws.{other_char, pushed}
use Rattle.yq_args.proofs.journal_name.push_escaped.Goals as goal

pub returns-else-c-eq47 : goal.returns-else-c-eq47
returns-else-c-eq47 c = pushed c.push.result _ _ _ _ c.push.ensures.bytes (other_char c.args.c c.if-c-eq37.false c.if-c-eq47.false)
