use Rattle.std.{proofs.Common.{string_bytes, sym, ap, ◌∙◌, subst}, proofs.lemmas.Result.err_from_is_err_and}
use Rattle.yq_text.{specs.Halves.whole, specs.TextGapBuffer.buffer_text}
use Rattle.yq_semantics.specs.Operations.{operation_of}
use Rattle.yq_edit_laws.{specs.Answers.EditFails, specs.Carried.carried, specs.Edit.{edit_after, gives}, proofs.OrderLaws.fails_after}
use Rattle.yq_splice.specs.Session.{SessionState}
use Rattle.yq_splice.proofs.SessionLaws.{carried_on, cut_borrowed, known_borrowed, places_borrowed, split_is, split_borrowed}
use Rattle.yq_splice.proofs.SessionLaws.{whole_borrowed}
use Rattle.yq_splice.proofs.session.Session.close_by.Goals as goal

pub move_split-requires : goal.move_split-requires
move_split-requires c = split_is (buffer_text c.self.inside.text) c.self.inside.places c.self.invariant.0

pub rows-rows-requires-clause-split : goal.rows-rows-requires-clause-split
rows-rows-requires-clause-split c =
    split_borrowed (buffer_text c.self.inside.text) c.self.inside.places c.self.invariant.0 c.halves-halves.result
    (c.halves-halves.ensures.front ∙ c.move_split.ensures.front, c.halves-halves.ensures.back ∙ c.move_split.ensures.back)

pub rows-rows-requires-clause-placed : goal.rows-rows-requires-clause-placed
rows-rows-requires-clause-placed c =
    places_borrowed (buffer_text c.self.inside.text) c.self.inside.places c.self.invariant.0 c.halves-halves.result
    (c.halves-halves.ensures.front ∙ c.move_split.ensures.front, c.halves-halves.ensures.back ∙ c.move_split.ensures.back)

pub carry_in-requires-clause-cut : goal.carry_in-requires-clause-cut
carry_in-requires-clause-cut c =
    cut_borrowed (buffer_text c.self.inside.text) c.self.inside.places c.self.invariant.0 c.halves-halves.result
    (c.halves-halves.ensures.front ∙ c.move_split.ensures.front, c.halves-halves.ensures.back ∙ c.move_split.ensures.back) c.rows-rows.result
    c.rows-rows.ensures

pub carry_in-requires-clause-known : goal.carry_in-requires-clause-known
carry_in-requires-clause-known c =
    known_borrowed (buffer_text c.self.inside.text) c.self.inside.places c.self.invariant.0 c.halves-halves.result
    (c.halves-halves.ensures.front ∙ c.move_split.ensures.front, c.halves-halves.ensures.back ∙ c.move_split.ensures.back) c.rows-rows.result
    c.rows-rows.ensures c.self.inside.known c.self.invariant.1

pub returns-in_err-edited : goal.returns-in_err-edited
returns-in_err-edited c =
    let all = whole_borrowed (buffer_text c.self.inside.text) c.self.inside.places c.self.invariant.0 c.halves-halves.result
    (c.halves-halves.ensures.front ∙ c.move_split.ensures.front, c.halves-halves.ensures.back ∙ c.move_split.ensures.back) in
    let same = carried_on (operation_of c.args.op.now) (buffer_text c.self.inside.text) (whole c.halves-halves.result) c.self.inside.places
    c.self.invariant.0 all ∙ ap (λ (s : SessionState). carried (operation_of c.args.op.now) s.text) c.self.view_is in
    let p = err_from_is_err_and c.from_residual.result c.from_residual.ensures.1 in
    rw (p.1, p.2)
    (fails_after c.in_err-edited.field-0.0 c.args.splices.items (carried (operation_of c.args.op.now) c.args.self.text) (subst (EditFails c.in_err-edited.field-0.0) same c.in_err-edited.ensures))

pub returns : goal.returns
returns c =
    let all = whole_borrowed (buffer_text c.self.inside.text) c.self.inside.places c.self.invariant.0 c.halves-halves.result
    (c.halves-halves.ensures.front ∙ c.move_split.ensures.front, c.halves-halves.ensures.back ∙ c.move_split.ensures.back) in
    let same = carried_on (operation_of c.args.op.now) (buffer_text c.self.inside.text) (whole c.halves-halves.result) c.self.inside.places
    c.self.invariant.0 all ∙ ap (λ (s : SessionState). carried (operation_of c.args.op.now) s.text) c.self.view_is in
    ap (edit_after c.args.splices.items) (sym same ∙ c.in_ok-edited.ensures)
    ∙ λ i. gives (string_bytes (sym c.in_ok-edited_after.ensures.0 i)) (sym c.in_ok-edited_after.ensures.1 i)
