use Rattle.std.{proofs.Common.{rules, ◌≡◌, ◌-◌, ◌++◌, List, take, drop, ap, arith, sym, subst}, specs.List.Sorted.IsNonDecreasingBy}
use Rattle.std.proofs.lemmas.List.{length-map}
use Rattle.yq_row_table.{specs.View.{Bound, bounds_at, RowsView}, proofs.RestSlicing.{AtRow, ends_rise, in_order, rest_sliced}}
use Rattle.yq_row_table.proofs.rows.Rows.rest.Goals as goal

pub returns-then-i-eq0-clause-within : goal.returns-then-i-eq0-clause-within
returns-then-i-eq0-clause-within c = search (rules, length-map)

pub returns-clause-within : goal.returns-clause-within
returns-clause-within c = search (rules, length-map)

pub returns-then-i-eq0-clause-bounds : goal.returns-then-i-eq0-clause-bounds
returns-then-i-eq0-clause-bounds c =
    let own = c.self.inside.places.ends in
    let to = c.count_to-to.result in
    let rise = subst (IsNonDecreasingBy (λ e. e.rows)) (sym c.self.invariant.0.placed.ends_are)
    (ends_rise (c.self.invariant.0.before ++ c.self.invariant.0.after) 0 0) in
    let second = c.count_to-to.ensures.count rise in
    let h : AtRow c.args.i 0 to own = record {
      within = c.count_to-to.ensures.within;
      before = λ k d low less. absurd (omega (arith, less));
      reached = λ k d low less. omega arith;
      here = second.0;
      passed = second.1;
    } in
    subst (λ (l : List Bound). take (to - 0) (drop 0 l) ≡ bounds_at c.args.i l) (ap (λ (s : RowsView). s.bounds) c.self.view_is)
    (rest_sliced c.self.inside.text c.args.i 0 to own (omega arith) h)

pub returns-clause-order : goal.returns-clause-order
returns-clause-order c =
    let own = c.self.inside.places.ends in
    let rise = subst (IsNonDecreasingBy (λ e. e.rows)) (sym c.self.invariant.0.placed.ends_are)
    (ends_rise (c.self.invariant.0.before ++ c.self.invariant.0.after) 0 0) in
    let first = c.count_to.ensures.count rise in
    let second = c.count_to-to.ensures.count rise in
    let h : AtRow c.args.i c.count_to.result c.count_to-to.result own = record {
      within = c.count_to-to.ensures.within;
      before = λ k d low less. omega (arith, first.0 k d low less);
      reached = λ k d low less. omega (arith, first.1 k d low less);
      here = second.0;
      passed = second.1;
    } in
    in_order c.args.i c.count_to.result c.count_to-to.result own c.count_to.ensures.within h

pub returns-clause-bounds : goal.returns-clause-bounds
returns-clause-bounds c =
    let own = c.self.inside.places.ends in
    let from = c.count_to.result in
    let to = c.count_to-to.result in
    let rise = subst (IsNonDecreasingBy (λ e. e.rows)) (sym c.self.invariant.0.placed.ends_are)
    (ends_rise (c.self.invariant.0.before ++ c.self.invariant.0.after) 0 0) in
    let first = c.count_to.ensures.count rise in
    let second = c.count_to-to.ensures.count rise in
    let h : AtRow c.args.i from to own = record {
      within = c.count_to-to.ensures.within;
      before = λ k d low less. omega (arith, first.0 k d low less);
      reached = λ k d low less. omega (arith, first.1 k d low less);
      here = second.0;
      passed = second.1;
    } in
    subst (λ (l : List Bound). take (to - from) (drop from l) ≡ bounds_at c.args.i l) (ap (λ (s : RowsView). s.bounds) c.self.view_is)
    (rest_sliced c.self.inside.text c.args.i from to own (in_order c.args.i from to own c.count_to.ensures.within h) h)
