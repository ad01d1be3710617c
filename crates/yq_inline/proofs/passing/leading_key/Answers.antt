use Rattle.yq_inline.proofs.FirstParts.{key_written, no_entry_key, no_key}
use Rattle.yq_inline.proofs.passing.leading_key.Goals as goal

pub returns-then-not-parts : goal.returns-then-not-parts
returns-then-not-parts c = no_key c.args.parts c.if-not-parts.true c.requires

pub unreachable-requires : goal.unreachable-requires
unreachable-requires c = no_entry_key c.args.parts c.if-not-parts.false c.requires c.in-Err.ensures.read

pub returns : goal.returns
returns c = key_written c.args.parts c.in-Ok.piece c.in-Ok.node c.if-not-parts.false c.requires c.in-Ok.ensures.read c.in-Ok.ensures.quoted
