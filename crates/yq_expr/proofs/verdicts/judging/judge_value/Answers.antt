use Rattle.std.proofs.Common.{◌≡◌, true, List, Option, IfSome, sym, subst, rules}
use Rattle.yq_core.{specs.Anchors.{Name, names_of}, specs.Values.value_node, specs.declared.value.Value.Value}
use Rattle.yq_planner.{specs.Indexes.HasAliases, specs.Substitutes.{HaveNoAlias, IsSubstitute}}
use Rattle.yq_semantics.specs.Judgement.{Judges}
use Rattle.yq_eval.specs.FoundView.{found_places}
use Rattle.yq_expr.{specs.EffectView.is_mapping, proofs.VerdictLaws.places_alike}
use Rattle.yq_expr.proofs.verdicts.judging.judge_value.Goals as goal

pub returns-in-Some : goal.returns-in-Some
returns-in-Some c = λ root named within.
    let small : IsSubstitute (value_node c.args.value.now) (value_node c.in-Some.small) = search rules in
    let free : c.args.adds ≡ true → is_mapping (value_node c.args.value.now) ≡ true → (names : List Name) → HasAliases names c.args.aliases.now → HaveNoAlias names =
    subst (λ (o : Option Value). IfSome o
    (λ _. c.args.adds ≡ true → is_mapping (value_node c.args.value.now) ≡ true → (names : List Name) → HasAliases names c.args.aliases.now →
    HaveNoAlias names)) c.in-Some.is c.in_ok-small.ensures.free in
    subst (Judges (λ _. tt) c.judge_one.result)
    (sym (places_alike root (value_node c.args.value.now) (value_node c.in-Some.small) c.args.adds (found_places c.args.found.now.places) (λ is of_map. free is of_map (names_of root) named) small))
    (c.judge_one.ensures root named within)
