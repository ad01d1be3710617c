use Rattle.std.{proofs.Common.{length, map, ap, ◌∙◌, arith, Some}, proofs.lemmas.Result.err_from_is_err_and}
use Rattle.yq_core.specs.Entries.{tree_step}
use Rattle.yq_documents.{specs.Located.steps_of, specs.Reading.cut_of}
use Rattle.yq_places.specs.Placements.{last_step}
use Rattle.yq_batch.{proofs.EmptiedAnswers.{can_empty, three_bytes}, proofs.RowRemovalAnswers.CanTake}
use Rattle.yq_batch.proofs.emptied_rows.empty_rows.Goals.{After-emptied_text}
use Rattle.yq_semantics.specs.Operations.{remove}
use Rattle.yq_batch.proofs.emptied_rows.empty_rows.Goals as goal

pub exchange-requires-clause-order : goal.exchange-requires-clause-order
exchange-requires-clause-order c = (let room = c.in-Some-sole_place.ensures.room in omega (arith, room))

pub exchange-requires-clause-room : goal.exchange-requires-clause-room
exchange-requires-clause-room c =
    let room = c.in-Some-sole_place.ensures.room in
    omega (arith, room, ap length c.emptied_text.ensures, three_bytes (tree_step c.in-Some.last.now))

can : (c : goal.After-emptied_text) → CanTake (remove c.args.path.now.doc (steps_of c.args.path.now)) (cut_of c.args.cut.now) c.args.path.now.doc c.args.run.now
    (record { least = Some 0; first = c.in-Some-sole_place.row; stop = c.in-Some-sole_place.row }) c.in-Some-sole_place.place.start c.in-Some-sole_place.place.end c.emptied_text.result.now
can c =
    can_empty c.args.cut.now c.args.path.now.doc (steps_of c.args.path.now) (map tree_step c.in-Some.above.now) (tree_step c.in-Some.last.now)
    c.args.from c.args.run.now (c.in-Some-sole_place.row, c.in-Some-sole_place.place) c.emptied_text.result.now
    c.text-text.ensures.read (c.in-Some.ensures ∙ ap (λ ss. last_step (map tree_step ss)) c.deref.ensures.value) c.in-Some-sole_place.ensures c.requires.run c.requires.fits c.emptied_text.ensures

pub exchange-requires-clause-utf8 : goal.exchange-requires-clause-utf8
exchange-requires-clause-utf8 c = (can c).utf8

pub exchange-requires-clause-start : goal.exchange-requires-clause-start
exchange-requires-clause-start c = (can c).starts

pub exchange-requires-clause-end : goal.exchange-requires-clause-end
exchange-requires-clause-end c = (can c).finishes

pub returns-clause-ok : goal.returns-clause-ok
returns-clause-ok c = (can (goal.at.returns-clause-ok c).After-emptied_text).on c.exchange.new.run c.in_ok-exchange.ensures.ok

pub returns-in_err-exchange-clause-err : goal.returns-in_err-exchange-clause-err
returns-in_err-exchange-clause-err c =
    let e = c.in_err-exchange.field-0.0 in
    let p = err_from_is_err_and c.from_residual.result c.from_residual.ensures.1 in
    rw (p.1, p.2) ((can (goal.at.returns-in_err-exchange-clause-err c).After-emptied_text).fails e c.in_err-exchange.ensures.err)
