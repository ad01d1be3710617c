use Rattle.std.proofs.Common.{rules, ◌≡◌, ◌∙◌, List, map, sym, ap}
use Rattle.yq_semantics.{specs.Program.{Stage, assign}, specs.View.{stage_of, term_of, update_of}}
use Rattle.yq_semantics.specs.declared.program.Operator.TheVariants as operator
use Rattle.yq_expr.proofs.sizes.spread.modifies_too_much.Goals as goal

pub returns-in_ok-count-in-Modify : goal.returns-in_ok-count-in-Modify
returns-in_ok-count-in-Modify c = λ many.
    let a = c.in-Some.assignment.now in
    let left : List Stage = map stage_of a.left.items in
    let by : a.operator ≡ operator.Modify = search (rules, c.in-Modify.is) in
    record {
      left = left;
      right = map term_of c.deref-right.result.now;
      count = c.in_ok-count-in-Modify.count;
      by = ap update_of c.in-Some.ensures.is ∙ (ap (λ o. assign left o (map term_of a.right.items)) by ∙ ap (λ ts. assign left operator.Modify (map term_of ts)) (sym c.deref-right.ensures.value));
      found = c.in_ok-count-in-Modify.ensures;
      more = search (rules, many);
    }
