-- Plans whose operations are at and below nodes: a sole part, and what it gives with those of its operations that are left.
use Rattle.std.proofs.Common.{◌≡◌, ℕ, ◌≤◌, ◌<◌, List, [], ◌∷◌, length, slice_index_or, sym, ap, ◌∙◌, subst, arith, append-nil, string_bytes}
use Rattle.yq_semantics.{specs.Operations.{Operation, operations_of}, specs.Under.{all_under, ops_under, part_ops}, specs.declared.op.Op.Op}
use Rattle.yq_semantics.specs.declared.under.OpsUnder.{OpsUnder}
use Rattle.yq_edit_laws.{specs.Carried.carry_all, specs.Edit.edit_after, specs.Valid.AreServed}
use Rattle.yq_batch.{specs.Under.CarriesUnder, specs.declared.together.Together.Together}
use Rattle.yq_core.specs.declared.path.Step as declared

-- a sole part
pub sole_part : (xs : List OpsUnder) (x : OpsUnder) → 1 ≤ length xs → length xs < 2 → x ≡ slice_index_or xs 0 x → all_under xs ≡ part_ops x
sole_part [] x some less at = absurd (omega (arith, some))
sole_part (y ∷ []) x some less at = append-nil (part_ops y) ∙ ap part_ops (sym at)
sole_part (y ∷ (z ∷ xs)) x some less at = absurd (omega (arith, less))

-- operations that are left where others were carried out together, by their paths from the root
module _ (front : List declared.Step) (ops : List Op) (t : List ℕ) (x : Together) (h : CarriesUnder front ops t x) (left : List Op)
    (is : operations_of left ≡ ops_under front x.left.now) where
  pub left_served : AreServed (operations_of left) (string_bytes x.edited.text)
  left_served = subst (λ (os : List Operation). AreServed os (string_bytes x.edited.text)) (sym is) h.serves

  pub left_give : edit_after x.edited.splices.items (carry_all (operations_of left) (string_bytes x.edited.text)) ≡ carry_all (ops_under front ops) t
  left_give = ap (λ (os : List Operation). edit_after x.edited.splices.items (carry_all os (string_bytes x.edited.text))) is ∙ h.whole
