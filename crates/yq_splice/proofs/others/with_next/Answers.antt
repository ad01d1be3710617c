use Rattle.std.proofs.Common.{◌<◌, ◌≤◌, ℕ, List, ◌-◌, length, take, drop, length-take, length-drop, sym, ap, ◌∙◌, subst, arith}
use Rattle.std.proofs.Common.{string_bytes}
use Rattle.yq_semantics.specs.Operations.{operation_of, operations_of}
use Rattle.yq_edit_laws.{specs.Carried.{carried, carry_all}, specs.Edit.edit_after, specs.Theorems.HasReading, specs.Valid.AreServed}
use Rattle.yq_edit_laws.{proofs.OperationsLaws.{others_come, others_served, first_fits, first_operand}, proofs.ApplyLaws.applied_by}
use Rattle.yq_splice.proofs.others.with_next.Goals as goal

-- those after the first one are fewer
fewer_later : {A : Type 0} (os : List A) → 1 ≤ length os → length (take (length os - 1) (drop 1 os)) < length os
fewer_later os some = omega (arith, length-take (length os - 1) (drop 1 os), length-drop 1 os, some)

pub carry-requires : goal.carry-requires
carry-requires c =
    let t : List ℕ = string_bytes c.args.together.edited.text in
    let fits = first_fits c.args.together.left.now c.op-item.result t c.in-len1-up.len_at_least c.op-item.is c.requires.serves in
    subst HasReading (sym c.as_str.ensures.value) (fits.before, fits.read)

pub returns-clause-ok : goal.returns-clause-ok
returns-clause-ok c =
    let t : List ℕ = string_bytes c.args.together.edited.text in
    let os = c.args.together.left.now in
    let next = c.in_ok-next.next in
    let edited = c.in_ok-edited.edited in
    let exact = ap (carried (operation_of c.op-item.result)) (sym c.as_str.ensures.value) ∙ c.in_ok-next.ensures in
    let fits = first_fits os c.op-item.result t c.in-len1-up.len_at_least c.op-item.is c.requires.serves in
    let operand = first_operand os c.op-item.result c.in-len1-up.len_at_least c.op-item.is c.requires.serves.1.operands in
    let done = applied_by (operation_of c.op-item.result) t operand fits (string_bytes next.text) next.splices.items exact in
    let text = ap string_bytes c.in_ok-edited.ensures.0 in
    record {
      whole =
          ap (λ (x : List ℕ). edit_after edited.splices.items (carry_all (operations_of (take (length os - 1) (drop 1 os))) x)) text
          ∙ others_come os c.op-item.result t (string_bytes next.text) c.args.together.edited.splices.items next.splices.items edited.splices.items c.in-len1-up.len_at_least c.op-item.is exact c.in_ok-edited.ensures.1;
      serves = subst (AreServed (operations_of (take (length os - 1) (drop 1 os)))) (sym text) (others_served os c.op-item.result t (string_bytes next.text) next.splices.items c.in-len1-up.len_at_least c.op-item.is c.requires.serves done);
      fewer = fewer_later os c.in-len1-up.len_at_least;
    }
