-- Operations of a part, the first of them apart, and a plan's sole part.
use Rattle.std.proofs.Common.{◌≡◌, ◌≤◌, ℕ, List, [], ◌∷◌, ◌++◌, length, sym, ap, ◌∙◌, arith, append-nil, length-append, take, take-take}
use Rattle.std.proofs.lemmas.List.{take-append-le, length-take-le}
use Rattle.yq_semantics.{specs.Operations.Operation, specs.Judgement.ExprError, specs.Under.{all_under, part_ops}}
use Rattle.yq_semantics.specs.declared.under.OpsUnder.{OpsUnder}
use Rattle.yq_text.specs.Splice.{Splice}
use Rattle.yq_edit_laws.{specs.Answers.EditFails, specs.Carried.{carried, carry_all}, specs.Edit.{Edit, gives, edit_after, edit_then}}
use Rattle.yq_edit_laws.{specs.Theorems.{IsApplied, IsFitting}, specs.Valid.AreServed, proofs.OrderLaws.{after_both, fails_after, fails_on}}
use Rattle.yq_edit_laws.proofs.ServeLaws.{fits, others_serve}

module _ (op : Operation) (ops : List Operation) (t : List ℕ) where
  pub next_come : (m : List ℕ) (bs cs all : List Splice) → carried op t ≡ gives m cs → all ≡ bs ++ cs → edit_after all (carry_all ops m) ≡ edit_after bs (carry_all (op ∷ ops) t)
  next_come m bs cs all is joined =
      ap (λ (xs : List Splice). edit_after xs (carry_all ops m)) joined
      ∙ (after_both bs cs (carry_all ops m) ∙ ap (λ (e : Edit). edit_after bs (edit_then (carry_all ops) e)) (sym is))

  pub next_served : (m : List ℕ) (cs : List Splice) → AreServed (op ∷ ops) t → IsApplied op t m cs → AreServed ops m
  next_served m cs s a = (_, others_serve s.0 op ops t s.1 m cs a)

  pub next_fits : AreServed (op ∷ ops) t → IsFitting op t
  next_fits s = fits s.0 op ops t s.1

  pub next_fails : (bs : List Splice) (e : ExprError) → EditFails e (carried op t) → EditFails e (edit_after bs (carry_all (op ∷ ops) t))
  next_fails bs e h = fails_after e bs (carry_all (op ∷ ops) t) (fails_on e (carry_all ops) (carried op t) h)

-- the first elements, before others
pub front_kept : {A : Type 0} (n : ℕ) (xs ys : List A) → n ≤ length xs → take n (take n xs ++ ys) ≡ take n xs
front_kept n xs ys within =
    let size : length (take n xs) ≡ n = length-take-le n xs within in
    take-append-le n (take n xs) ys (omega (arith, size)) ∙ take-take n n xs (omega arith)

pub front_within : {A : Type 0} (n : ℕ) (xs ys : List A) → n ≤ length xs → n ≤ length (take n xs ++ ys)
front_within n xs ys within = omega (arith, length-take-le n xs within, length-append (take n xs) ys)

-- a sole part is what is taken from the plan
pub sole_taken : (xs ys : List OpsUnder) (x : OpsUnder) → length xs ≡ 1 → xs ≡ ys ++ x ∷ [] → all_under xs ≡ part_ops x
sole_taken xs [] x one is = ap all_under is ∙ append-nil (part_ops x)
sole_taken xs (y ∷ ys) x one is = absurd (omega (arith, one, ap length is, length-append ys (x ∷ [])))
