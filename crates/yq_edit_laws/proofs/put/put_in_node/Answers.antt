use Rattle.std.proofs.Common.{◌∙◌, sym, rules}
use Rattle.yq_edit_laws.proofs.put.put_in_node.Goals as goal

pub returns-then-is_same_node : goal.returns-then-is_same_node
returns-then-is_same_node c = sym c.is_same_node.ensures ∙ c.if-is_same_node.true

pub returns : goal.returns
returns c = search rules
