use Rattle.std.proofs.Common.{true, false, sym, ap, ◌∙◌}
use Rattle.yq_core.specs.Values.{value_node}
use Rattle.yq_nodes.specs.Nodes.{node_of}
use Rattle.yq_semantics.{specs.Judgement.gives, specs.View.program_step}
use Rattle.yq_expr.proofs.ChangeLaws.{put_first}
use Rattle.yq_expr.proofs.plans.put.put_below.Goals as goal

pub returns-then-has_index : goal.returns-then-has_index
returns-then-has_index c =
    rw c.error.ensures
    (put_first (λ s. program_step s.now) (node_of c.args.node.now) c.args.missing.now c.first-item.result (value_node c.args.value) true
    c.in-len1-up.len_at_least c.first-item.is (sym c.has_index.ensures ∙ c.if-has_index.true))

pub returns : goal.returns
returns c =
    put_first (λ s. program_step s.now) (node_of c.args.node.now) c.args.missing.now c.first-item.result (value_node c.args.value) false
    c.in-len1-up.len_at_least c.first-item.is (sym c.has_index.ensures ∙ c.if-has_index.false)
    ∙ ap gives (sym c.in_ok-created.ensures)
