-- Operations of a plan, the first of them apart.
use Rattle.std.proofs.Common.{rules, ◌≡◌, ℕ, ◌-◌, ◌≤◌, List, [], ◌∷◌, ◌++◌, length, take, drop, slice_index_or, sym, ap, subst, take_all}
use Rattle.std.proofs.Common.{append-nil, arith}
use Rattle.yq_semantics.{specs.Operations.{operation_of, operations_of}, specs.declared.op.Op.Op, specs.Judgement.ExprError}
use Rattle.yq_text.specs.Splice.{Splice}
use Rattle.yq_edit_laws.{specs.Answers.EditFails, specs.Carried.{carried, carry_all}, specs.Edit.{gives, edit_after}}
use Rattle.yq_edit_laws.{specs.Theorems.{IsApplied, IsFitting}, specs.Valid.{AreServed, HaveOperands}}
use Rattle.yq_edit_laws.{proofs.OrderLaws.{after_both, fails_after, fails_on}, proofs.ServeLaws.{fits, others_serve}}
use Rattle.yq_edit_rules.specs.Operands.{HasOperand}

abbrev pub later : {A : Type 0} → List A → List A
later xs = take (length xs - 1) (drop 1 xs)

pub first_apart : {A : Type 0} (xs : List A) (x : A) → 1 ≤ length xs → x ≡ slice_index_or xs 0 x → xs ≡ x ∷ later xs
first_apart [] x some at = absurd (omega (arith, some))
first_apart (y ∷ xs) x some at = (λ i. sym at i ∷ sym (take_all (length (y ∷ xs) - 1) xs (omega arith)) i)

-- one that is the last one
pub last_comes : (os : List Op) (op : Op) (t : List ℕ) → 1 ≤ length os → op ≡ slice_index_or os 0 op → length (later os) ≡ 0 → carried (operation_of op) t ≡ carry_all (operations_of os) t
last_comes os op t some at h5 = search (rules, arith, first_apart)

-- one that others follow
pub others_come : (os : List Op) (op : Op) (t m : List ℕ) (bs cs all : List Splice) → 1 ≤ length os → op ≡ slice_index_or os 0 op → carried (operation_of op) t ≡ gives m cs → all ≡ bs ++ cs →
    edit_after all (carry_all (operations_of (later os)) m) ≡ edit_after bs (carry_all (operations_of os) t)
others_come os op t m bs cs all some at new_bytes joined = search (rules, after_both, first_apart)

pub others_served : (os : List Op) (op : Op) (t m : List ℕ) (cs : List Splice) → 1 ≤ length os → op ≡ slice_index_or os 0 op → AreServed (operations_of os) t → IsApplied (operation_of op) t m cs →
    AreServed (operations_of (later os)) m
others_served os op t m cs some at h a =
    let s = subst (λ (x : List Op). AreServed (operations_of x) t) (first_apart os op some at) h in
    (_, others_serve s.0 (operation_of op) (operations_of (later os)) t s.1 m cs a)

-- one that fails
pub first_fails : (os : List Op) (op : Op) (t : List ℕ) (bs : List Splice) (e : ExprError) → 1 ≤ length os → op ≡ slice_index_or os 0 op →
    EditFails e (carried (operation_of op) t) → EditFails e (edit_after bs (carry_all (operations_of os) t))
first_fails os op t bs e some at h =
    fails_after e bs (carry_all (operations_of os) t)
    (subst (λ (x : List Op). EditFails e (carry_all (operations_of x) t)) (sym (first_apart os op some at)) (fails_on e (carry_all (operations_of (later os))) (carried (operation_of op) t) h))

-- none
pub none_come : (os : List Op) (t : List ℕ) (bs : List Splice) → length os ≡ 0 → edit_after bs (carry_all (operations_of os) t) ≡ gives t bs
none_come [] t bs e = ap (gives t) (append-nil bs)
none_come (o ∷ os) t bs e = absurd (omega (arith, e))

pub first_fits : (os : List Op) (op : Op) (t : List ℕ) → 1 ≤ length os → op ≡ slice_index_or os 0 op → AreServed (operations_of os) t → IsFitting (operation_of op) t
first_fits os op t some at h = search (rules, subst (λ (x : List Op). AreServed (operations_of x) t) (first_apart os op some at) h, fits)

-- the operand of the first one, and those of the others
pub first_operand : (os : List Op) (op : Op) → 1 ≤ length os → op ≡ slice_index_or os 0 op → HaveOperands (operations_of os) →
    HasOperand (operation_of op)
first_operand [] op some at h = absurd (omega (arith, some))
first_operand (x ∷ os) op some at h = subst (λ (y : Op). HasOperand (operation_of y)) (sym at) h.0

pub later_operands : (os : List Op) → 1 ≤ length os → HaveOperands (operations_of os) → HaveOperands (operations_of (later os))
later_operands [] some h = absurd (omega (arith, some))
later_operands (x ∷ os) some h = subst (λ (ys : List Op). HaveOperands (operations_of ys)) (sym (take_all (length (x ∷ os) - 1) os (omega arith))) h.1
