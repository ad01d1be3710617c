use Rattle.std.proofs.Common.{sym, ◌∙◌}
use Rattle.yq_inline.proofs.FirstParts.{first_done, first_there}
use Rattle.yq_inline.proofs.passing.first_text.Goals as goal

pub returns-then-are_none : goal.returns-then-are_none
returns-then-are_none c = sym (first_done c.args.parts (sym c.are_none.ensures ∙ c.if-are_none.true))

pub returns : goal.returns
returns c = first_there c.args.parts (sym c.are_none.ensures ∙ c.if-are_none.false)
