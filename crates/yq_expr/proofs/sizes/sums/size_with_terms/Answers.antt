use Rattle.std.{proofs.Common.{◌≡◌, ◌+◌, [], drop, map, ap, ◌∙◌, sym, subst, refl, rules}, proofs.lemmas.List.drop_all}
use Rattle.yq_eval.{specs.PlaceView.place_of, proofs.EachLaws.reached}
use Rattle.yq_semantics.{specs.RightValues.{sum_from, term_value}, specs.View.term_of}
use Rattle.yq_expr.{specs.SumSizes.{AddsSized, GivesSized, IsJoinedSize}, proofs.SumLaws.{one_more, sized_adds}}
use Rattle.yq_expr.proofs.sizes.sums.size_with_terms.Goals as goal

pub terms-init : goal.terms-init
terms-init c = record {
  adds = sized_adds _ c.args.first.1 c.requires.first;
  so_far = λ v h. (v, h, refl);
}

pub terms-preserved : goal.terms-preserved
terms-preserved c =
    let rest = reached term_of c.args.terms.now c.terms.term-index c.term-item.result c.terms-test.true c.term-item.is in
    let sized : AddsSized (term_value c.args.doc (place_of c.args.place.now) (term_of c.term-item.result)) c.in-Some.added = rw c.in-Some.is at c.in_ok-added.ensures in
    let joined : IsJoinedSize c.terms.sum.total c.in-Some.added c.in-Some-with.total = rw c.in-Some-with.is at c.with.ensures in
    record {
      adds = sized;
      so_far = λ v h.
          let before = c.terms.invariant.so_far v h in
          let more = one_more c.args.doc (place_of c.args.place.now) before.0 (term_of c.term-item.result)
          (map term_of (drop (c.terms.term-index + 1) c.args.terms.now)) c.terms.sum.total c.in-Some.added c.in-Some-with.total before.1 sized
          joined in (
            more.0,
            more.1,
            more.2 ∙ (ap (sum_from c.args.doc (place_of c.args.place.now) before.0) (sym rest) ∙ before.2),
          );
    }

pub returns : goal.returns
returns c = λ v h.
    let all = c.terms.invariant.so_far v h in
    let rest : map term_of (drop c.terms.term-index c.args.terms.now) ≡ [] = search (rules, drop_all, c.terms-test.false) in
    subst (λ j. GivesSized j c.terms.sum.total) (ap (sum_from c.args.doc (place_of c.args.place.now) all.0) (sym rest) ∙ all.2) all.1
