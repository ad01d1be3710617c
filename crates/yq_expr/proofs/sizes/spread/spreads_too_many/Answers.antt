use Rattle.std.proofs.Common.{◌≡◌, ◌∙◌, Bool, true, false, List, map, if◌then◌else◌, refl, sym, ap, subst}
use Rattle.yq_core.specs.Values.{value_node}
use Rattle.yq_semantics.{specs.Judgement.gives, specs.Program.{Stage, Term, assign}, specs.RightValues.right_value}
use Rattle.yq_semantics.{specs.View.{stage_of, term_of, update_of}, specs.declared.program.Operator.Operator}
use Rattle.yq_semantics.specs.declared.program.Operator.TheVariants as operator
use Rattle.yq_expr.proofs.sizes.spread.spreads_too_many.Goals as goal

-- an operator that doesn't modify adds or sets
adds_or_sets : (o : Operator) → (o ≡ operator.Modify → ⊥) → (adds : Bool) × (o ≡ (if adds then operator.Add else operator.Set))
adds_or_sets operator.Set other = (false, refl)
adds_or_sets operator.Add other = (true, refl)
adds_or_sets operator.Modify other = absurd (other refl)

pub returns-in-Ok : goal.returns-in-Ok
returns-in-Ok c = λ many.
    let d = c.args.document.now in
    let a = c.in-Some.assignment.now in
    let left : List Stage = map stage_of a.left.items in
    let right : List Term = map term_of c.deref-right.result.now in
    let kept = adds_or_sets a.operator c.in_default-operator.not-Modify in
    let op : Operator = if kept.0 then operator.Add else operator.Set in
    record {
      adds = kept.0;
      left = left;
      right = right;
      value = value_node c.in-Ok.value;
      by = ap update_of c.in-Some.ensures.is ∙ (ap (λ o. assign left o (map term_of a.right.items)) kept.1 ∙ ap (λ ts. assign left op (map term_of ts)) (sym c.deref-right.ensures.value));
      found = subst (λ p. right_value d.doc right p ≡ gives (value_node c.in-Ok.value)) c.of_root-from.ensures c.in-Ok.ensures;
      spreads = c.is_spread.ensures.spread many;
      whole = λ adds. c.is_spread.ensures.whole many (kept.1 ∙ ap (λ (b : Bool). if b then operator.Add else operator.Set) adds);
    }
