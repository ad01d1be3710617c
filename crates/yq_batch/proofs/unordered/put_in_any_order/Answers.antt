use Rattle.std.{proofs.Common.{◌≡◌, ◌∙◌, ℕ, List, Option, refl, sym, ap, subst, string_bytes}, specs.Prelude.IfSome}
use Rattle.yq_text.specs.Halves.{whole}
use Rattle.yq_semantics.specs.Operations.{operation_of, operations_of}
use Rattle.yq_edit_laws.{specs.Carried.carry_all, proofs.OperationsLaws.{first_fits, first_operand, others_come, others_served}}
use Rattle.yq_batch.{specs.OpenRuns.{MayWrite, open_text}, specs.Runs.{ChangesAt, cut_with}, specs.Slots.{slots_of, text_from}}
use Rattle.yq_batch.{specs.declared.change.HeadChange.HeadChange, proofs.CarriedFirst.carries_some, proofs.RunAnswers.lies_in}
use Rattle.yq_batch.proofs.UnorderedAnswers.{open_starts, opens}
use Rattle.yq_batch.proofs.unordered.put_in_any_order.Goals as goal

pub begun-requires-clause-operands : goal.begun-requires-clause-operands
begun-requires-clause-operands c = c.requires.serves.1.operands

pub change_of-requires-clause-operand : goal.change_of-requires-clause-operand
change_of-requires-clause-operand c =
    first_operand c.operations.rest.now c.op-item.result c.in-len1-up.len_at_least c.op-item.is c.operations.invariant.serves.1.operands

pub put-requires : goal.put-requires
put-requires c =
    let h = subst (λ (o : Option HeadChange). IfSome o (ChangesAt (operation_of c.op-item.result) c.args.at.now)) c.in-Some-found.is c.in_ok-found.ensures in
    let lies = lies_in (operation_of c.op-item.result) c.args.at.now (whole c.text_around-text.result) c.in-Some-found.change c.text_around-text.ensures h in
    record { counts = c.operations.invariant.runs.counts; order = lies.order; start = lies.start; end = lies.end }

pub operations-preserved : goal.operations-preserved
operations-preserved c =
    let h = subst (λ (o : Option HeadChange). IfSome o (ChangesAt (operation_of c.op-item.result) c.args.at.now)) c.in-Some-found.is c.in_ok-found.ensures in
    let t : List ℕ = open_text (cut_with c.args.at.now) c.operations.run in
    let m : List ℕ = open_text (cut_with c.args.at.now) c.put.new.self in
    let fits = first_fits c.operations.rest.now c.op-item.result t c.in-len1-up.len_at_least c.op-item.is c.operations.invariant.serves in
    let on = opens c.args.at.now (whole c.text_around-text.result) c.text_around-text.ensures (operation_of c.op-item.result) c.operations.run
    c.in-Some-found.change c.requires.there c.operations.invariant.runs fits h c.put.new.self (c.in_ok-put.ensures c.if-not-branch.false) in
    record {
      whole =
          others_come c.operations.rest.now c.op-item.result t m c.operations.run.splices.items on.new_bytes c.put.new.self.splices.items c.in-len1-up.len_at_least c.op-item.is on.comes on.splices
          ∙ c.operations.invariant.whole;
      serves = others_served c.operations.rest.now c.op-item.result t m on.new_bytes c.in-len1-up.len_at_least c.op-item.is c.operations.invariant.serves on.applied;
      runs = on.run;
    }

pub operations-preserved-else-not-branch : goal.operations-preserved-else-not-branch
operations-preserved-else-not-branch c =
    let h = subst (λ (o : Option HeadChange). IfSome o (ChangesAt (operation_of c.op-item.result) c.args.at.now)) c.in-Some-found.is c.in_ok-found.ensures in
    let t : List ℕ = open_text (cut_with c.args.at.now) c.operations.run in
    let m : List ℕ = open_text (cut_with c.args.at.now) c.put.new.self in
    let fits = first_fits c.operations.rest.now c.op-item.result t c.in-len1-up.len_at_least c.op-item.is c.operations.invariant.serves in
    let on = opens c.args.at.now (whole c.text_around-text.result) c.text_around-text.ensures (operation_of c.op-item.result) c.operations.run
    c.in-Some-found.change c.requires.there c.operations.invariant.runs fits h c.put.new.self (c.in_ok-put.ensures c.if-not-branch.false) in
    record {
      whole =
          others_come c.operations.rest.now c.op-item.result t m c.operations.run.splices.items on.new_bytes c.put.new.self.splices.items c.in-len1-up.len_at_least c.op-item.is on.comes on.splices
          ∙ c.operations.invariant.whole;
      serves = others_served c.operations.rest.now c.op-item.result t m on.new_bytes c.in-len1-up.len_at_least c.op-item.is c.operations.invariant.serves on.applied;
      runs = on.run;
    }

pub ended-requires-clause-edge : goal.ended-requires-clause-edge
ended-requires-clause-edge c = open_starts c.args.at.now c.requires.there (whole c.text_around-text.result) c.text_around-text.ensures

pub ended-requires-clause-places : goal.ended-requires-clause-places
ended-requires-clause-places c =
    let r = c.operations.invariant.runs.run in
    subst (λ (l : List ℕ). MayWrite l 0 (slots_of c.operations.run.slots)) (sym c.text_around-text.ensures) (r.edges, r.order)

pub returns : goal.returns
returns c =
    let text : string_bytes c.in_ok-edited.edited.text ≡ open_text (cut_with c.args.at.now) c.operations.run =
    c.in_ok-edited.ensures.text ∙ ap (λ (l : List ℕ). text_from l 0 (slots_of c.operations.run.slots)) c.text_around-text.ensures in
    carries_some c.operations.rest.now (open_text (cut_with c.args.at.now) c.operations.run) c.operations.run.splices.items (carry_all (operations_of c.args.ops.now) c.args.at.now.cut.now) _ refl text
    c.in_ok-edited.ensures.splices c.operations.invariant.whole c.operations.invariant.serves
