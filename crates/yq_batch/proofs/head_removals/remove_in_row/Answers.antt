use Rattle.std.proofs.Common.{◌∙◌, ℕ, List, map, sym, subst}
use Rattle.yq_text.specs.TextGapBuffer.{buffer_text}
use Rattle.yq_core.specs.Entries.{tree_step}
use Rattle.yq_documents.specs.Reading.{cut_of}
use Rattle.yq_edit_laws.proofs.OperationsLaws.{others_come, others_served}
use Rattle.yq_batch.{specs.HeadRemovals.RemovesHeads, specs.RemovalRuns.HasRemoved, specs.declared.removals.RemovalRun.RemovalRun}
use Rattle.yq_batch.proofs.HeadRemovalLaws.{head_ends}
use Rattle.yq_batch.proofs.head_removals.remove_in_row.Goals as goal

pub returns-in_default-clause-ok : goal.returns-in_default-clause-ok
returns-in_default-clause-ok c =
    let h = c.in_ok-left.ensures.ok in
    (h.0, head_ends c.args.cut.now c.args.found.0.doc c.args.found.1 (map tree_step c.args.found.0.stem.now) c.in_ok-left.known c.remove_each.new.run c.text-text.ensures.read c.requires.row h.1)

pub returns-then-branch-clause-ok : goal.returns-then-branch-clause-ok
returns-then-branch-clause-ok c =
    let h = c.in_ok-left.ensures.ok in
    let t : List ℕ = buffer_text c.remove_each.new.run.text in
    let m : List ℕ = buffer_text c.empty_head.new.run.text in
    let on = c.in_ok-empty_head.ensures.ok c.if-branch.true in (
      record {
        whole =
            others_come c.in_ok-left.left.now c.op-item.result t m c.remove_each.new.run.splices.items on.new_bytes c.empty_head.new.run.splices.items c.in-len1-up.len_at_least c.op-item.is on.comes on.splices
            ∙ h.0.whole;
        serves = others_served c.in_ok-left.left.now c.op-item.result t m on.new_bytes c.in-len1-up.len_at_least c.op-item.is h.0.serves on.applied;
      },
      on.run,
    )

pub returns-clause-ok : goal.returns-clause-ok
returns-clause-ok c =
    let h = c.in_ok-left.ensures.ok in
    subst (λ (r : RemovalRun). HasRemoved c.args.ops.now c.args.run.now c.in_ok-left.left.now r × RemovesHeads (cut_of c.args.cut.now) c.args.found.0.doc c.args.found.1 r)
    (sym (c.in_ok-empty_head.ensures.stays c.if-branch.false))
    (h.0, head_ends c.args.cut.now c.args.found.0.doc c.args.found.1 (map tree_step c.args.found.0.stem.now) c.in_ok-left.known c.remove_each.new.run c.text-text.ensures.read c.requires.row h.1)
