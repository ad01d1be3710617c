use Rattle.std.proofs.Common.{rules, ◌≡◌, ◌∷◌, [], IfOk, List, map, subst}
use Rattle.yq_core.{specs.Tree.Node, specs.Values.value_node}
use Rattle.yq_nodes.specs.Nodes.{kind_of, node_of}
use Rattle.yq_semantics.{specs.Changes.{adds, appends, created, nested, replaces, step_key}, specs.Program.PathStep}
use Rattle.yq_semantics.specs.View.{program_step}
use Rattle.yq_planner.specs.ChangeView.{change_of}
use Rattle.yq_nodes.specs.declared.nodes.node.NodeKind.TheVariants as kinds
use Rattle.yq_expr.proofs.plans.put.created.Goals as goal

in_map : (n : Node) (m : PathStep) (ms : List PathStep) (v w : Node) → kinds.Map ≡ kind_of n → w ≡ nested ms v → adds (appends (step_key m) w ∷ []) ≡ created n m ms v
in_map n m ms v w is below = search rules

elsewhere : (n : Node) (m : PathStep) (ms : List PathStep) (v w : Node) → (kinds.Map ≡ kind_of n → ⊥) → w ≡ nested (m ∷ []) (nested ms v) → replaces w ≡ created n m ms v
elsewhere n m ms v w is below = search rules

pub returns-then-eq : goal.returns-then-eq
returns-then-eq c =
    let is : kinds.Map ≡ kind_of (node_of c.args.node.now) = search rules in
    let below : value_node c.in_ok-below.below ≡ nested (map (λ s. program_step s.now) c.args.others.now) (value_node c.args.value) = search rules in
    subst (λ x. IfOk c.appended.result (λ a. change_of a ≡ x)) (in_map (node_of c.args.node.now) (program_step c.args.first.now) _ _ _ is below) c.appended.ensures

pub returns : goal.returns
returns c =
    let is : kinds.Map ≡ kind_of (node_of c.args.node.now) → ⊥ = search rules in
    let below : value_node c.in_ok-under.field-0 ≡ nested (program_step c.args.first.now ∷ []) (nested (map (λ s. program_step s.now) c.args.others.now) (value_node c.args.value)) = search rules in
    elsewhere (node_of c.args.node.now) (program_step c.args.first.now) _ _ _ is below
