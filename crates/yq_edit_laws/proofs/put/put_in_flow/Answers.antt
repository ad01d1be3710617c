use Rattle.std.proofs.Common.{◌∙◌, ℕ, List, Some, map, sym, ap, subst, rules}
use Rattle.yq_text.specs.Halves.{whole}
use Rattle.yq_core.{specs.Entries.tree_step, specs.Values.value_node}
use Rattle.yq_documents.{specs.Located.steps_of, specs.Reading.cut_of}
use Rattle.yq_places.specs.Placements.{last_step}
use Rattle.yq_edit_rules.specs.Answers.{GivesSegments}
use Rattle.yq_edit_laws.{specs.EditPlaces.LiesIn, specs.PartPuts.place_after, proofs.FlowAnswers.whole_text}
use Rattle.yq_edit_laws.proofs.PartAnswers.{content_missing, part_found, puts_found}
use Rattle.yq_edit_laws.proofs.PutAnswers.{puts_kept, puts_none, puts_written}
use Rattle.yq_edit_laws.proofs.put.put_in_flow.Goals as goal

pub returns-in_default-found : goal.returns-in_default-found
returns-in_default-found c = search (rules, puts_none, content_missing)

pub edit_at-requires : goal.edit_at-requires
edit_at-requires c =
    let last = c.in-Some.ensures ∙ ap (λ ss. last_step (map tree_step ss)) c.deref.ensures.value in
    let f = part_found c.args.cut.now c.args.path.now.doc (map tree_step c.in-Some.above.now) (tree_step c.in-Some.last.now) _
    (c.in-Some-found.part, c.in-Some-found.before) c.text-text.ensures.read c.in_ok-found.ensures c.in-Some-found.is in
    let h = puts_found _ _ (steps_of c.args.path.now) _ _ (c.in-Some-found.part, c.in-Some-found.before) last f (value_node c.args.value.now) c.replace_place-place.result c.in_ok-put.put c.replace_place-place.ensures c.in_ok-put.ensures in
    let all = whole_text c.args.cut.now (whole c.text-text.result) c.text-text.ensures.read c.text-text.ensures.text in
    record { lies = subst (λ (t : List ℕ). LiesIn t (place_after c.in-Some-found.before c.replace_place-place.result)) (sym all) h.2.lies }

pub returns-in-Some-put : goal.returns-in-Some-put
returns-in-Some-put c =
    let last = c.in-Some.ensures ∙ ap (λ ss. last_step (map tree_step ss)) c.deref.ensures.value in
    let f = part_found c.args.cut.now c.args.path.now.doc (map tree_step c.in-Some.above.now) (tree_step c.in-Some.last.now) _
    (c.in-Some-found.part, c.in-Some-found.before) c.text-text.ensures.read c.in_ok-found.ensures c.in-Some-found.is in
    let h = puts_found _ _ (steps_of c.args.path.now) _ _ (c.in-Some-found.part, c.in-Some-found.before) last f (value_node c.args.value.now) c.replace_place-place.result c.in_ok-put.put c.replace_place-place.ensures c.in_ok-put.ensures in
    let all = whole_text c.args.cut.now (whole c.text-text.result) c.text-text.ensures.read c.text-text.ensures.text in
    subst (GivesSegments c.edit_at.result)
    (sym (puts_written c.args.path.now.doc (steps_of c.args.path.now) (value_node c.args.value.now) (cut_of c.args.cut.now)
    (place_after c.in-Some-found.before c.replace_place-place.result) c.in_ok-put.put c.in-Some-put.written (whole c.text-text.result) c.in-Some-put.is all h))
    c.edit_at.ensures

pub returns : goal.returns
returns c =
    let last = c.in-Some.ensures ∙ ap (λ ss. last_step (map tree_step ss)) c.deref.ensures.value in
    let f = part_found c.args.cut.now c.args.path.now.doc (map tree_step c.in-Some.above.now) (tree_step c.in-Some.last.now) _
    (c.in-Some-found.part, c.in-Some-found.before) c.text-text.ensures.read c.in_ok-found.ensures c.in-Some-found.is in
    let h = puts_found _ _ (steps_of c.args.path.now) _ _ (c.in-Some-found.part, c.in-Some-found.before) last f (value_node c.args.value.now) c.replace_place-place.result c.in_ok-put.put c.replace_place-place.ensures c.in_ok-put.ensures in
    puts_kept c.args.path.now.doc (steps_of c.args.path.now) (value_node c.args.value.now) (cut_of c.args.cut.now) _ c.in_ok-put.put c.in-None.is h ∙ ap Some (sym c.in_ok-unchanged-in-None.ensures)
