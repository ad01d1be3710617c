use Rattle.std.{proofs.Common.{◌≡◌, ◌≢◌, ◌∷◌, ℕ, List, arith, subst, rules}, proofs.lemmas.Str.Pattern.strip_prefix_char}
use Rattle.std.specs.Prelude.{MatchOption}
use Rattle.yq_scalar_reader.proofs.SameContentLaws.{feed_missing, feed_stripped}
use Rattle.yq_scalar_reader.proofs.same_content.strip_breaks.Goals as goal

pub returns-in-None : goal.returns-in-None
returns-in-None c =
    feed_missing _ _ _ _ c.each.invariant.so_far (omega (arith, c.each-test.true))
    (subst (λ r. MatchOption r ((s : List ℕ) → c.each.rest.now ≢ 10 ∷ s) (λ x. c.each.rest.now ≡ 10 ∷ x.now)) c.in-None.is (strip_prefix_char 10 c.each.rest.now c.strip_prefix.result c.strip_prefix.ensures.cases (omega arith)))

pub each-preserved : goal.each-preserved
each-preserved c = record {
  utf8 = search rules;
  so_far = feed_stripped _ _ _ _ _ c.each.invariant.so_far (omega (arith, c.each-test.true))
      (subst (λ r. MatchOption r ((s : List ℕ) → c.each.rest.now ≢ 10 ∷ s) (λ x. c.each.rest.now ≡ 10 ∷ x.now)) c.in-Some.is (strip_prefix_char 10 c.each.rest.now c.strip_prefix.result c.strip_prefix.ensures.cases (omega arith)));
}
