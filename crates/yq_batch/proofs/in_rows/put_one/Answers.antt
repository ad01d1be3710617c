use Rattle.std.{proofs.Common.{Option, subst, arith}, proofs.lemmas.Result.err_from_is_err_and, specs.Prelude.IfSome}
use Rattle.yq_text.specs.Halves.{whole}
use Rattle.yq_documents.specs.Reading.{cut_of}
use Rattle.yq_batch.{specs.RowRuns.PutsInRow, specs.Under.op_meant, specs.declared.row_put.RowPut.RowPut}
use Rattle.yq_batch.proofs.RowRunAnswers.{row_edge, row_ends, row_kept_on, row_order, row_put_fails, row_put_on, row_starts}
use Rattle.yq_batch.proofs.in_rows.put_one.Goals as goal

pub returns-in_default-written-clause-ok : goal.returns-in_default-written-clause-ok
returns-in_default-written-clause-ok c =
    let h = subst (λ (o : Option RowPut). IfSome o (PutsInRow (op_meant c.args.at) (cut_of c.args.cut.now))) c.in-Some.is c.in_ok-found.ensures.puts in
    row_kept_on c.args.cut.now (whole c.text-text.result) (op_meant c.args.at) c.args.last c.args.run.now c.in-Some.found c.text-text.ensures.read c.text-text.ensures.text c.requires.run h
    (c.comes_later.ensures c.if-not-comes_later.false) (omega (arith, c.if-start-run.false)) c.requires.fits (c.writes_same_break.ensures c.if-not-writes_same_break.false c.args.at.path.now) c.in_default-written.is

pub put-requires-clause-edge : goal.put-requires-clause-edge
put-requires-clause-edge c = row_edge c.args.cut.now (whole c.text-text.result) c.text-text.ensures.read c.text-text.ensures.text c.args.last c.args.run.now c.requires.run

pub put-requires-clause-order : goal.put-requires-clause-order
put-requires-clause-order c =
    let h = subst (λ (o : Option RowPut). IfSome o (PutsInRow (op_meant c.args.at) (cut_of c.args.cut.now))) c.in-Some.is c.in_ok-found.ensures.puts in
    row_order c.args.cut.now (whole c.text-text.result) c.text-text.ensures.read c.text-text.ensures.text (op_meant c.args.at) c.in-Some.found h

pub put-requires-clause-start : goal.put-requires-clause-start
put-requires-clause-start c =
    let h = subst (λ (o : Option RowPut). IfSome o (PutsInRow (op_meant c.args.at) (cut_of c.args.cut.now))) c.in-Some.is c.in_ok-found.ensures.puts in
    row_starts c.args.cut.now (whole c.text-text.result) c.text-text.ensures.read c.text-text.ensures.text (op_meant c.args.at) c.in-Some.found h

pub put-requires-clause-end : goal.put-requires-clause-end
put-requires-clause-end c =
    let h = subst (λ (o : Option RowPut). IfSome o (PutsInRow (op_meant c.args.at) (cut_of c.args.cut.now))) c.in-Some.is c.in_ok-found.ensures.puts in
    row_ends c.args.cut.now (whole c.text-text.result) c.text-text.ensures.read c.text-text.ensures.text (op_meant c.args.at) c.in-Some.found h

pub returns-in_err-put-clause-err : goal.returns-in_err-put-clause-err
returns-in_err-put-clause-err c =
    let h = subst (λ (o : Option RowPut). IfSome o (PutsInRow (op_meant c.args.at) (cut_of c.args.cut.now))) c.in-Some.is c.in_ok-found.ensures.puts in
    let p = err_from_is_err_and c.from_residual-in_err-put.result c.from_residual-in_err-put.ensures.1 in
    rw (p.1, p.2) (row_put_fails c.args.cut.now (whole c.text-text.result) (op_meant c.args.at) c.args.last c.args.run.now c.in-Some.found c.text-text.ensures.read c.text-text.ensures.text c.requires.run h
    (c.comes_later.ensures c.if-not-comes_later.false) (omega (arith, c.if-start-run.false)) c.requires.fits
    (c.writes_same_break.ensures c.if-not-writes_same_break.false c.args.at.path.now) c.in-Some-written.written c.in-Some-written.is c.in_err-put.field-0.0
    c.in_err-put.ensures.err)

pub returns-clause-ok : goal.returns-clause-ok
returns-clause-ok c =
    let h = subst (λ (o : Option RowPut). IfSome o (PutsInRow (op_meant c.args.at) (cut_of c.args.cut.now))) c.in-Some.is c.in_ok-found.ensures.puts in
    row_put_on c.args.cut.now (whole c.text-text.result) (op_meant c.args.at) c.args.last c.args.run.now c.in-Some.found c.text-text.ensures.read c.text-text.ensures.text c.requires.run h
    (c.comes_later.ensures c.if-not-comes_later.false) (omega (arith, c.if-start-run.false)) c.requires.fits
    (c.writes_same_break.ensures c.if-not-writes_same_break.false c.args.at.path.now) c.in-Some-written.written c.in-Some-written.is c.put.new.self
    c.in_ok-put.ensures.ok
