use Rattle.std.proofs.Common.{rules, ◌≡◌, ◌∷◌, ◌∙◌, ℕ, List, ap, sym, subst, arith, length, take, take_all}
use Rattle.std.specs.Vec.Iter.{into_iter_items}
use Rattle.yq_core.specs.declared.path.Step.{Step}
use Rattle.yq_semantics.{specs.Operations.Operation, specs.Under.{op_under, ops_under, part_ops}}
use Rattle.yq_edit_laws.{specs.Carried.{carried, carry_all}, specs.Edit.{edit_after, gives}, specs.Valid.AreServed}
use Rattle.yq_edit_laws.proofs.ApplyLaws.{applied_by}
use Rattle.yq_splice.proofs.UnderLaws.{next_come, next_fits, next_served}
use Rattle.yq_splice.proofs.under.carry_each_under.Goals as goal

pub operations-init : goal.operations-init
operations-init c =
    let its = into_iter_items c.into_iter-op-iterator.result in
    let items : its ≡ c.args.part.ops.items = search rules in
    let front : take c.len-depth.result c.args.part.front.items ≡ c.args.part.front.items =
    take_all c.len-depth.result c.args.part.front.items (omega (arith, c.len-depth.ensures, c.args.part.front.ok.0))
    in
    let all : ops_under (take c.len-depth.result c.args.part.front.items) its ≡ part_ops c.args.part = λ i. ops_under (front i) (items i) in
    let text = c.in_ok-session.ensures in
    record {
      whole = λ i. edit_after c.args.splices.items (carry_all (all i) (text i));
      serves = subst (λ (t : List ℕ). AreServed (ops_under (take c.len-depth.result c.args.part.front.items) its) t) (sym text) (subst (λ (os : List Operation). AreServed os c.args.text.now) (sym all) c.requires.serves);
      within = omega (arith, c.len-depth.ensures, c.args.part.front.ok.0);
      counted = search rules;
    }

pub operations-preserved : goal.operations-preserved
operations-preserved c =
    let depth = c.len-depth.result in
    let front = take depth c.operations.steps.items in
    let its = into_iter_items c.next.new.self in
    let op = op_under front c.in-Some.op in
    let rest = ops_under front its in
    let t = c.operations.session.text in
    let new = c.apply_valid.new.self.text in
    let items : into_iter_items c.operations.op-iterator ≡ c.in-Some.op ∷ its = search rules in
    let all : ops_under front (into_iter_items c.operations.op-iterator) ≡ op ∷ rest = ap (ops_under front) items in
    let is : carried op t ≡ gives new c.in_ok-next.next.items = ap (λ (o : Operation). carried o t) (sym c.in_ok-whole.ensures.op) ∙ c.in_ok-next.ensures.ok in
    let kept : take depth c.steps_in-steps.result.items ≡ front = ap (take depth) c.steps_in-steps.ensures ∙ c.in_ok-whole.ensures.front in
    let served : AreServed (op ∷ rest) t = subst (λ (os : List Operation). AreServed os t) all c.operations.invariant.serves in
    let applied = applied_by op t served.1.operands.0 (next_fits op rest t served) new c.in_ok-next.next.items is in
    record {
      whole =
          ap (λ (fs : List Step). edit_after c.append.new.self.items (carry_all (ops_under fs its) new)) kept
          ∙ (next_come op rest t new c.operations.splices.items c.in_ok-next.next.items c.append.new.self.items is c.in_ok-append.ensures.items
          ∙ (ap (λ (os : List Operation). edit_after c.operations.splices.items (carry_all os t)) (sym all) ∙ c.operations.invariant.whole));
      serves = subst (λ (fs : List Step). AreServed (ops_under fs its) new) (sym kept) (next_served op rest t new c.in_ok-next.next.items served applied);
      within = omega (arith, ap (λ (xs : List Step). length xs) c.steps_in-steps.ensures, c.in_ok-whole.ensures.within);
      counted = search rules;
    }
