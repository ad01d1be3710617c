use Rattle.std.proofs.Common.{sym}
use Rattle.yq_core.proofs.TextChars.{any_some, any_none}
use Rattle.yq_core.proofs.characters.holds_byte.Goals as goal

pub returns-in-Some : goal.returns-in-Some
returns-in-Some c = sym (any_some c.args.b c.args.text.now _ c.in-Some.ensures)

pub returns-in-None : goal.returns-in-None
returns-in-None c = sym (any_none c.args.b c.args.text.now c.in-None.ensures)
