use Rattle.std.proofs.Common.{IfOk, IfErr, List, ℕ, OnErr, sym, ap, ◌∙◌, subst}
use Rattle.yq_text.{specs.Halves.whole, specs.TextGapBuffer.buffer_text, specs.Changing.IsChange}
use Rattle.yq_documents.specs.Reading.{cut_of}
use Rattle.yq_semantics.specs.Operations.{operation_of}
use Rattle.yq_lookup.specs.Knowledge.{KnowledgeStays}
use Rattle.yq_edit_laws.{specs.Answers.EditFails, specs.Carried.carried, specs.Edit.Edit, specs.Valid.segments_by}
use Rattle.yq_splice.specs.Session.{HasPlaces, Knows}
use Rattle.yq_splice.proofs.SessionLaws.{carried_on, cut_borrowed, known_borrowed, moved_same, places_back, places_borrowed, split_is}
use Rattle.yq_splice.proofs.SessionLaws.{split_borrowed, whole_borrowed}
use Rattle.yq_splice.proofs.session.change.Goals as goal

pub move_split-requires : goal.move_split-requires
move_split-requires c =
    let h : HasPlaces (buffer_text c.args.text.now) c.replace-before.result = subst (HasPlaces (buffer_text c.args.text.now)) (sym c.replace-before.ensures.value) c.requires.places in
    split_is (buffer_text c.args.text.now) c.replace-before.result h

pub rows-rows-requires-clause-split : goal.rows-rows-requires-clause-split
rows-rows-requires-clause-split c =
    let h : HasPlaces (buffer_text c.args.text.now) c.replace-before.result = subst (HasPlaces (buffer_text c.args.text.now)) (sym c.replace-before.ensures.value) c.requires.places in
    split_borrowed (buffer_text c.args.text.now) c.replace-before.result h c.halves-halves.result (c.halves-halves.ensures.front ∙ c.move_split.ensures.front, c.halves-halves.ensures.back ∙ c.move_split.ensures.back)

pub rows-rows-requires-clause-placed : goal.rows-rows-requires-clause-placed
rows-rows-requires-clause-placed c =
    let h : HasPlaces (buffer_text c.args.text.now) c.replace-before.result = subst (HasPlaces (buffer_text c.args.text.now)) (sym c.replace-before.ensures.value) c.requires.places in
    places_borrowed (buffer_text c.args.text.now) c.replace-before.result h c.halves-halves.result (c.halves-halves.ensures.front ∙ c.move_split.ensures.front, c.halves-halves.ensures.back ∙ c.move_split.ensures.back)

pub change_in-changed-requires-clause-cut : goal.change_in-changed-requires-clause-cut
change_in-changed-requires-clause-cut c =
    let h : HasPlaces (buffer_text c.args.text.now) c.replace-before.result = subst (HasPlaces (buffer_text c.args.text.now)) (sym c.replace-before.ensures.value) c.requires.places in
    cut_borrowed (buffer_text c.args.text.now) c.replace-before.result h c.halves-halves.result
    (c.halves-halves.ensures.front ∙ c.move_split.ensures.front, c.halves-halves.ensures.back ∙ c.move_split.ensures.back) c.rows-rows.result
    c.rows-rows.ensures

pub change_in-changed-requires-clause-known : goal.change_in-changed-requires-clause-known
change_in-changed-requires-clause-known c =
    let h : HasPlaces (buffer_text c.args.text.now) c.replace-before.result = subst (HasPlaces (buffer_text c.args.text.now)) (sym c.replace-before.ensures.value) c.requires.places in
    known_borrowed (buffer_text c.args.text.now) c.replace-before.result h c.halves-halves.result
    (c.halves-halves.ensures.front ∙ c.move_split.ensures.front, c.halves-halves.ensures.back ∙ c.move_split.ensures.back) c.rows-rows.result
    c.rows-rows.ensures c.args.known.now c.requires.known

pub returns-clause-same : goal.returns-clause-same
returns-clause-same c =
    moved_same (buffer_text c.args.text.now) c.replace-before.result.split c.move_split.new.self c.move_split.ensures.front c.move_split.ensures.back

pub returns-clause-places : goal.returns-clause-places
returns-clause-places c =
    let h : HasPlaces (buffer_text c.args.text.now) c.replace-before.result = subst (HasPlaces (buffer_text c.args.text.now)) (sym c.replace-before.ensures.value) c.requires.places in
    places_back (buffer_text c.args.text.now) c.replace-before.result h c.halves-halves.result
    (c.halves-halves.ensures.front ∙ c.move_split.ensures.front, c.halves-halves.ensures.back ∙ c.move_split.ensures.back) c.rows-rows.result
    c.rows-rows.ensures c.into_places.result c.into_places.ensures

pub returns-clause-ok : goal.returns-clause-ok
returns-clause-ok c =
    let h : HasPlaces (buffer_text c.args.text.now) c.replace-before.result = subst (HasPlaces (buffer_text c.args.text.now)) (sym c.replace-before.ensures.value) c.requires.places in
    let all = whole_borrowed (buffer_text c.args.text.now) c.replace-before.result h c.halves-halves.result (c.halves-halves.ensures.front ∙ c.move_split.ensures.front, c.halves-halves.ensures.back ∙ c.move_split.ensures.back) in
    subst (λ (t : List ℕ). IfOk c.change_in-changed.result (IsChange (segments_by (operation_of c.args.op.now) (cut_of t)))) all c.change_in-changed.ensures.ok

pub returns-clause-known : goal.returns-clause-known
returns-clause-known c =
    let h : HasPlaces (buffer_text c.args.text.now) c.replace-before.result = subst (HasPlaces (buffer_text c.args.text.now)) (sym c.replace-before.ensures.value) c.requires.places in
    let all = whole_borrowed (buffer_text c.args.text.now) c.replace-before.result h c.halves-halves.result (c.halves-halves.ensures.front ∙ c.move_split.ensures.front, c.halves-halves.ensures.back ∙ c.move_split.ensures.back) in
    subst (λ (t : List ℕ). IfOk c.change_in-changed.result (λ x. KnowledgeStays x.front (cut_of t) c.change_in-changed.new.known)) all c.change_in-changed.ensures.known

pub returns-clause-kept : goal.returns-clause-kept
returns-clause-kept c =
    let h : HasPlaces (buffer_text c.args.text.now) c.replace-before.result = subst (HasPlaces (buffer_text c.args.text.now)) (sym c.replace-before.ensures.value) c.requires.places in
    let all = whole_borrowed (buffer_text c.args.text.now) c.replace-before.result h c.halves-halves.result (c.halves-halves.ensures.front ∙ c.move_split.ensures.front, c.halves-halves.ensures.back ∙ c.move_split.ensures.back) in
    subst (λ (t : List ℕ). OnErr c.change_in-changed.result (Knows t c.change_in-changed.new.known)) all c.change_in-changed.ensures.kept

pub returns-clause-err : goal.returns-clause-err
returns-clause-err c =
    let h : HasPlaces (buffer_text c.args.text.now) c.replace-before.result = subst (HasPlaces (buffer_text c.args.text.now)) (sym c.replace-before.ensures.value) c.requires.places in
    let all = whole_borrowed (buffer_text c.args.text.now) c.replace-before.result h c.halves-halves.result (c.halves-halves.ensures.front ∙ c.move_split.ensures.front, c.halves-halves.ensures.back ∙ c.move_split.ensures.back) in
    let same = carried_on (operation_of c.args.op.now) (buffer_text c.args.text.now) (whole c.halves-halves.result) c.replace-before.result h all in
    subst (λ (x : Edit). IfErr c.change_in-changed.result (λ e. EditFails e x)) same c.change_in-changed.ensures.err
