use Rattle.std.proofs.Common.{◌∙◌, inl, inr, sym}
use Rattle.yq_edit_laws.proofs.append.more_in_node.Goals as goal

pub returns-then-not-takes : goal.returns-then-not-takes
returns-then-not-takes c = inl (sym c.takes.ensures ∙ c.if-not-takes.true)

pub returns-in_default : goal.returns-in_default
returns-in_default c = inr (sym c.in_default.ensures)

pub returns : goal.returns
returns c = (sym c.takes.ensures ∙ c.if-not-takes.false, sym c.in-Some.ensures, c.in_ok-written.ensures)
