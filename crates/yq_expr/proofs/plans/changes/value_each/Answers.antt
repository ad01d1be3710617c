use Rattle.std.{proofs.Common.{◌≡◌, map, sym, ap, ◌∙◌, subst, rules}, proofs.lemmas.Result.err_from_is_err_and}
use Rattle.yq_core.specs.Values.{value_node}
use Rattle.yq_nodes.specs.Nodes.{node_of}
use Rattle.yq_semantics.{specs.Changes.{add_at, at_each, put_with_path}, specs.Judgement.{Judges, gives}, specs.Places.root_place}
use Rattle.yq_semantics.{specs.PlacesApart.AreIn, specs.RightValues.right_value, specs.View.term_of}
use Rattle.yq_planner.specs.ChangeView.{changes_under}
use Rattle.yq_eval.{specs.FoundView.found_places, specs.TreeScalars.HaveScalars, proofs.EachLaws.failed}
use Rattle.yq_expr.proofs.AllChanges.{value_there}
use Rattle.yq_expr.proofs.plans.changes.value_each.Goals as goal

pub returns-in_err-value-clause-changes : goal.returns-in_err-value-clause-changes
returns-in_err-value-clause-changes c = search (rules, err_from_is_err_and, failed)

pub put_at-put-requires : goal.put_at-put-requires
put_at-put-requires c = (subst HaveScalars c.in-Some.ensures c.requires.places.scalars).0

pub returns-then-adds-clause-changes : goal.returns-then-adds-clause-changes
returns-then-adds-clause-changes c =
    let root = node_of c.args.found.now.document.root in
    let ts = map term_of c.args.right.now in
    let value : right_value c.args.found.now.document.doc ts (root_place root) ≡ gives (value_node c.in_ok-value.value) = sym (ap (right_value c.args.found.now.document.doc ts) c.of_root-from.ensures) ∙ c.in_ok-value.ensures in
    let all = value_there root (right_value c.args.found.now.document.doc ts (root_place root)) add_at (found_places c.args.found.now.places) (value_node c.in_ok-value.value) c.requires.some value in
    rw c.if-adds.true (subst (Judges changes_under c.at_found.result) (sym all) (c.at_found.ensures.changes root c.requires.aliases c.requires.places.within))

pub returns-in-None-clause-changes : goal.returns-in-None-clause-changes
returns-in-None-clause-changes c =
    let root = node_of c.args.found.now.document.root in
    let ts = map term_of c.args.right.now in
    let value : right_value c.args.found.now.document.doc ts (root_place root) ≡ gives (value_node c.in_ok-value.value) = sym (ap (right_value c.args.found.now.document.doc ts) c.of_root-from.ensures) ∙ c.in_ok-value.ensures in
    let all = value_there root (right_value c.args.found.now.document.doc ts (root_place root)) put_with_path (found_places c.args.found.now.places) (value_node c.in_ok-value.value) c.requires.some value in
    rw c.if-adds.false (subst (Judges changes_under c.at_found-in-None.result) (sym all) (c.at_found-in-None.ensures.changes root c.requires.aliases c.requires.places.within))

pub returns-in-Some-clause-changes : goal.returns-in-Some-clause-changes
returns-in-Some-clause-changes c =
    let root = node_of c.args.found.now.document.root in
    let ts = map term_of c.args.right.now in
    let value : right_value c.args.found.now.document.doc ts (root_place root) ≡ gives (value_node c.in_ok-value.value) = sym (ap (right_value c.args.found.now.document.doc ts) c.of_root-from.ensures) ∙ c.in_ok-value.ensures in
    let all = value_there root (right_value c.args.found.now.document.doc ts (root_place root)) put_with_path (found_places c.args.found.now.places) (value_node c.in_ok-value.value) c.requires.some value in
    let put = c.put_at-put.ensures.changes root c.requires.aliases (subst (AreIn root) c.in-Some.ensures c.requires.places.within) in
    rw (c.if-adds.false, c.at_place.ensures) (subst (Judges changes_under c.put_at-put.result)
    (ap (at_each root (λ q. put_with_path q (value_node c.in_ok-value.value))) (sym c.in-Some.ensures) ∙ sym all) put)
