use Rattle.std.{proofs.Common.{◌+◌, ◌∙◌, Some, option_and_then, drop, map, sym, ap, arith}, proofs.lemmas.List.drop_all}
use Rattle.yq_core.specs.Entries.{tree_step}
use Rattle.yq_outline.specs.Labelled.{labelled_from}
use Rattle.yq_nodes.{specs.Nodes.labelled_of, proofs.WalkLaws.{path_next, path_node}}
use Rattle.yq_nodes.proofs.nodes.node.Node.descend.Goals as goal

pub returns-in_err-node-clause-labelled : goal.returns-in_err-node-clause-labelled
returns-in_err-node-clause-labelled c =
    let next = path_next c.args.steps.now c.steps.step-index c.step-item.result _ (labelled_of c.steps.node) (omega (arith, c.steps-test.true)) c.step-item.is c.steps.invariant in
    rw c.from_residual.ensures (sym (next ∙ sym (ap (option_and_then (labelled_from (map tree_step (drop (c.steps.step-index + 1) c.args.steps.now)))) c.in_err-node.ensures.labelled)))

pub returns-in_err-node-clause-node : goal.returns-in_err-node-clause-node
returns-in_err-node-clause-node c = path_node (map tree_step c.args.steps.now) (labelled_of c.args.self.now) c.from_residual.result (returns-in_err-node-clause-labelled c)

pub steps-preserved : goal.steps-preserved
steps-preserved c =
    let next = path_next c.args.steps.now c.steps.step-index c.step-item.result _ (labelled_of c.steps.node) (omega (arith, c.steps-test.true)) c.step-item.is c.steps.invariant in
    next ∙ sym (ap (option_and_then (labelled_from (map tree_step (drop (c.steps.step-index + 1) c.args.steps.now)))) c.in_ok-node.ensures.labelled)

pub returns-clause-labelled : goal.returns-clause-labelled
returns-clause-labelled c =
    sym (c.steps.invariant ∙ ap (λ x. labelled_from (map tree_step x) (labelled_of c.steps.node)) (drop_all c.steps.step-index c.args.steps.now (omega (arith, c.steps-test.false))))

pub returns-clause-node : goal.returns-clause-node
returns-clause-node c = path_node (map tree_step c.args.steps.now) (labelled_of c.args.self.now) (Some c.steps.node) (returns-clause-labelled c)
