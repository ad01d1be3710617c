use Rattle.std.proofs.Common.{sym, ap, ◌∙◌, cond}
use Rattle.yq_core.specs.Anchors.{names_of}
use Rattle.yq_nodes.specs.Nodes.{node_of}
use Rattle.yq_semantics.{specs.Changes.is_too_deep, specs.Judgement.{gives, refuses}}
use Rattle.yq_semantics.specs.declared.refusal.Refusal.TheVariants.{AnchorInUse}
use Rattle.yq_planner.{specs.ChangeView.change_of, proofs.UsedLaws.allowed_by}
use Rattle.yq_planner.proofs.updating.allowed.allow.Goals as goal

pub returns-then-branch-2-clause-allowed : goal.returns-then-branch-2-clause-allowed
returns-then-branch-2-clause-allowed c = λ root x h.
    rw c.error-then-branch-2.ensures
    (allowed_by root (node_of c.args.node.now) x (change_of c.args.change.now) c.in_ok-takes_used.field-0 (sym c.in_ok-is_too_long.ensures.long ∙ c.if-branch.false)
    (ap (λ n. is_too_deep n (change_of c.args.change.now)) h.long ∙ (sym c.is_too_deep.ensures ∙ c.if-is_too_deep.false)) (c.in_ok-takes_used.ensures (names_of root) h.named) h.here
    ∙ ap (λ b. cond b (refuses AnchorInUse) (gives (x, change_of c.args.change.now))) c.if-branch-2.true)

pub returns-clause-allowed : goal.returns-clause-allowed
returns-clause-allowed c = λ root x h.
    allowed_by root (node_of c.args.node.now) x (change_of c.args.change.now) c.in_ok-takes_used.field-0 (sym c.in_ok-is_too_long.ensures.long ∙ c.if-branch.false)
    (ap (λ n. is_too_deep n (change_of c.args.change.now)) h.long ∙ (sym c.is_too_deep.ensures ∙ c.if-is_too_deep.false)) (c.in_ok-takes_used.ensures (names_of root) h.named) h.here
    ∙ ap (λ b. cond b (refuses AnchorInUse) (gives (x, change_of c.args.change.now))) c.if-branch-2.false
