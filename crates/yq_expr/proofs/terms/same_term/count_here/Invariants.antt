use Rattle.std.proofs.Common.{◌≡◌, ◌∷◌, [], map, replicate, take}
use Rattle.yq_semantics.{specs.Program.{found, path}, specs.View.term_of}
use Rattle.yq_expr.proofs.terms.same_term.count_here.Given as goal

abbrev pub invariant-terms : goal.invariant-terms
invariant-terms l = record {
  counted : l.count ≡ l.term-index;
  same : map term_of (take l.count l.terms) ≡ replicate l.count (found (path [] ∷ []));
}
