use Rattle.std.proofs.Common.{◌≡◌, ◌∙◌, List, map, sym, ap, subst}
use Rattle.yq_semantics.{specs.Program.{Stage, Term, assign}, specs.RightValues.right_value, specs.Places.FoundPlace}
use Rattle.yq_semantics.specs.View.{stage_of, term_of, update_of}
use Rattle.yq_eval.specs.PlaceView.{place_of}
use Rattle.yq_nodes.specs.Nodes.{node_of}
use Rattle.yq_expr.{specs.Oversized.{GivesAt, string_before, value_start}, specs.SumSizes.{GivesLarge, GivesSized, found_sum}}
use Rattle.yq_expr.proofs.OversizedLaws.{missing_keys}
use Rattle.yq_expr.proofs.sizes.oversized.is_oversized_at.Goals as goal

pub returns-in-Some-2 : goal.returns-in-Some-2
returns-in-Some-2 c = λ large.
    let doc = c.args.document.now.doc in
    let root = node_of c.args.document.now.root in
    let p : FoundPlace = place_of c.args.place.now in
    let a = c.in-Some.assignment.now in
    let left : List Stage = map stage_of a.left.items in
    let right : List Term = map term_of c.deref-right.result.now in
    let by = ap update_of c.in-Some.ensures.is ∙ ap (λ ts. assign left a.operator (map term_of ts)) (sym c.deref-right.ensures.value) in
    let sized : GivesSized (found_sum doc c.value_start-from.result c.deref-right.result.now) c.in-Some-2.size = rw c.in-Some-2.is at c.in_ok-size.ensures in
    let given = c.is_too_large.ensures large (found_sum doc c.value_start-from.result c.deref-right.result.now) sized in
    let from_start = subst (λ (q : FoundPlace). GivesLarge c.string_before.result.now (right_value doc right q)) c.value_start-from.ensures given in
    let there = subst (λ s. GivesLarge s (right_value doc right (value_start a.operator root p))) c.string_before.ensures from_start in
    (missing_keys c.args.place.now.missing, subst (λ u. GivesAt doc root u p) (sym by) there)
