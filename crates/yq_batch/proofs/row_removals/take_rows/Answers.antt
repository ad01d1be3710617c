use Rattle.std.proofs.Common.{ℕ, refl, subst, sym, arith, ◌+◌, []}
use Rattle.yq_documents.{specs.Located.steps_of, specs.Reading.cut_of}
use Rattle.yq_places.specs.RemovalReading.{removal_view}
use Rattle.yq_batch.{specs.RowRemovals.{RemovesRowsOn, removal_of}, proofs.RowRemovalAnswers.{found_rows, out_small, CanTake, rows_changed}}
use Rattle.yq_batch.proofs.row_removals.take_rows.Goals.{After-is_text-2}
use Rattle.yq_batch.proofs.row_removals.take_rows.Goals as goal

pub len-requires : goal.len-requires
len-requires c =
    let small = out_small c.args.cut.now c.args.path.now.doc (steps_of c.args.path.now) (removal_view c.in-Some.gone c.in-Some.seam) c.text-text.ensures.read (sym c.in-Some.ensures) in
    omega (arith, small)

pub len-start-requires : goal.len-start-requires
len-start-requires c =
    let small = out_small c.args.cut.now c.args.path.now.doc (steps_of c.args.path.now) (removal_view c.in-Some.gone c.in-Some.seam) c.text-text.ensures.read (sym c.in-Some.ensures) in
    omega (arith, small)

pub overflow_add-end : goal.overflow_add-end
overflow_add-end c =
    let small = out_small c.args.cut.now c.args.path.now.doc (steps_of c.args.path.now) (removal_view c.in-Some.gone c.in-Some.seam) c.text-text.ensures.read (sym c.in-Some.ensures) in
    omega (arith, small, c.len-start.ensures, c.len.ensures)

found : (c : goal.After-is_text-2) → CanTake (removal_of c.args.path.now) (cut_of c.args.cut.now) c.args.path.now.doc c.args.run.now
    (rows_changed c.args.from c.least_for-next.result (c.in-Some-own.field-0-0, c.in-Some-own.first, c.in-Some-own.stop)) c.len-start.result (c.len-start.result + c.len.result) []
found c =
    found_rows c.args.cut.now c.args.path.now.doc (steps_of c.args.path.now) (removal_view c.in-Some.gone c.in-Some.seam) _ c.args.from c.least_for-next.result c.args.run.now c.len-start.result c.len.result
    c.text-text.ensures.read c.in-Some.ensures c.in-Some-own.ensures c.requires.run c.requires.others c.requires.fits c.len-start.ensures c.len.ensures c.if-end-run.false (c.if-not-stays_at.ensures refl)
    c.least_for-next.ensures c.is_text.ensures c.is_text-2.ensures

pub exchange-requires-clause-utf8 : goal.exchange-requires-clause-utf8
exchange-requires-clause-utf8 c = (found (goal.at.exchange-requires-clause-utf8 c).After-is_text-2).utf8

pub exchange-requires-clause-start : goal.exchange-requires-clause-start
exchange-requires-clause-start c = (found (goal.at.exchange-requires-clause-start c).After-is_text-2).starts

pub exchange-requires-clause-end : goal.exchange-requires-clause-end
exchange-requires-clause-end c = (found (goal.at.exchange-requires-clause-end c).After-is_text-2).finishes

pub returns-clause-ok : goal.returns-clause-ok
returns-clause-ok c =
    subst (λ (i : ℕ). RemovesRowsOn (removal_of c.args.path.now) (cut_of c.args.cut.now) c.args.path.now.doc c.args.run.now (record { least = c.least_for-next.result; first = c.in-Some-own.first; stop = i }) c.exchange.new.run)
    (sym c.stop_after-stop.ensures) ((found (goal.at.returns-clause-ok c).After-is_text-2).on c.exchange.new.run c.in_ok-exchange.ensures.ok)
