use Rattle.std.proofs.Common.{◌≡◌, map, replicate, take}
use Rattle.yq_semantics.specs.View.{term_of}
use Rattle.yq_expr.proofs.terms.same_term.count_same.Given as goal

abbrev pub invariant-terms : goal.invariant-terms
invariant-terms l = record {
  counted : l.count ≡ l.other-index;
  same : map term_of (take l.count l.terms) ≡ replicate l.count (term_of l.term);
}
