use Rattle.std.{proofs.Common.{rules, ◌≡◌, map, sym, ap, ◌∙◌, subst}, proofs.lemmas.Result.err_from_is_err_and}
use Rattle.yq_core.specs.Values.{value_node}
use Rattle.yq_nodes.specs.Nodes.{node_of}
use Rattle.yq_planner.specs.Substitutes.{verdict}
use Rattle.yq_semantics.{specs.Judgement.{Judges, gives}, specs.Places.root_place, specs.RightValues.right_value, specs.View.term_of}
use Rattle.yq_eval.{specs.FoundView.found_places, proofs.EachLaws.failed}
use Rattle.yq_expr.{proofs.AllChanges.value_fails, proofs.VerdictLaws.{small_judged, value_judged, verdict_fails}, specs.SumSizes.HasSmall}
use Rattle.yq_expr.proofs.verdicts.judging.judge_right.Goals as goal

pub returns-in_err-value : goal.returns-in_err-value
returns-in_err-value c = search (rules, err_from_is_err_and, failed, verdict_fails, value_fails)

pub returns : goal.returns
returns c =
    let root = node_of c.args.found.now.document.root in
    let ts = map term_of c.args.right.now in
    let value : right_value c.args.found.now.document.doc ts (root_place root) ≡ gives (value_node c.in_ok-value.value) = sym (ap (right_value c.args.found.now.document.doc ts) c.of_root-from.ensures) ∙ c.in_ok-value.ensures in
    subst (Judges (λ _. tt) c.judge_value.result)
    (ap verdict (sym (value_judged root (right_value c.args.found.now.document.doc ts (root_place root)) c.args.adds (found_places c.args.found.now.places) (value_node c.in_ok-value.value) c.requires.some value)))
    (c.judge_value.ensures root c.requires.aliases c.requires.places.within)

pub returns-in-Some : goal.returns-in-Some
returns-in-Some c =
    let root = node_of c.args.found.now.document.root in
    let j = right_value c.args.found.now.document.doc (map term_of c.args.right.now) (root_place root) in
    let large : HasSmall j (value_node c.in-Some.small) = search (rules, c.in-Some.is, c.of_root-from.ensures) in
    subst (Judges (λ _. tt) c.judge_one.result)
    (sym (small_judged root j c.args.adds (found_places c.args.found.now.places) (value_node c.in-Some.small) c.requires.some large))
    (c.judge_one.ensures root c.requires.aliases c.requires.places.within)
