use Rattle.std.proofs.Common.{sym, ◌∙◌}
use Rattle.yq_nodes.proofs.RestLaws.{body_children}
use Rattle.yq_nodes.proofs.nodes.node.Node.rest.Goals as goal

pub returns-in-Inline : goal.returns-in-Inline
returns-in-Inline c = c.inline_rest.ensures ∙ sym (body_children c.args.self.now _ c.in-Inline.is)
