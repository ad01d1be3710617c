use Rattle.std.{proofs.Common.{Option, rules, subst, string_bytes}, specs.Prelude.IfSome, proofs.lemmas.Bool.false≢true}
use Rattle.std.proofs.lemmas.Result.{err_from_is_err_and}
use Rattle.yq_text.specs.Halves.{whole}
use Rattle.yq_semantics.specs.Operations.{operation_of}
use Rattle.yq_batch.{specs.Runs.ChangesAt, specs.declared.change.HeadChange.HeadChange, proofs.RunAnswers.{edge_in, lies_in}}
use Rattle.yq_batch.proofs.FilledAnswers.{again_fails, again_on, change_fails, change_kept, change_on}
use Rattle.yq_batch.proofs.adding.carry_next.Goals as goal

pub put-requires : goal.put-requires
put-requires c =
    let edge = edge_in c.args.at.now (whole c.text_around.result) c.text_around.ensures c.args.run.now.run c.requires.run.run in
    record { done = search rules; order = search rules; edge = edge; start = edge; end = edge }

pub returns-in_err-put-clause-err : goal.returns-in_err-put-clause-err
returns-in_err-put-clause-err c =
    let h = subst (λ (o : Option HeadChange). IfSome o (ChangesAt (operation_of c.args.op.now) c.args.at.now)) c.in-Some.is c.in_ok-found.ensures in
    let p = err_from_is_err_and c.from_residual-in_err-put.result c.from_residual-in_err-put.ensures.1 in
    rw (p.1, p.2) (again_fails c.args.at.now (whole c.text_around.result) c.text_around.ensures (operation_of c.args.op.now) c.args.run.now c.in-Some.change c.requires.run h (c.is_known.ensures c.if-is_known.true) c.requires.fits
    c.in-Some-written.written c.in-Some-written.is (string_bytes c.in_ok-new.new) c.in_ok-new.ensures c.in_err-put.field-0.0 c.in_err-put.ensures.err)

pub returns-then-is_known-clause-ok : goal.returns-then-is_known-clause-ok
returns-then-is_known-clause-ok c =
    let h = subst (λ (o : Option HeadChange). IfSome o (ChangesAt (operation_of c.args.op.now) c.args.at.now)) c.in-Some.is c.in_ok-found.ensures in
    λ _. again_on c.args.at.now (whole c.text_around.result) c.text_around.ensures (operation_of c.args.op.now) c.args.run.now c.in-Some.change c.requires.run h (c.is_known.ensures c.if-is_known.true) c.requires.fits
    c.in-Some-written.written c.in-Some-written.is (string_bytes c.in_ok-new.new) c.in_ok-new.ensures c.put.new.self c.in_ok-put.ensures.ok

pub returns-in_default-written-2-clause-ok : goal.returns-in_default-written-2-clause-ok
returns-in_default-written-2-clause-ok c =
    let h = subst (λ (o : Option HeadChange). IfSome o (ChangesAt (operation_of c.args.op.now) c.args.at.now)) c.in-Some.is c.in_ok-found.ensures in
    λ _. change_kept c.args.at.now (operation_of c.args.op.now) c.args.run.now c.in-Some.change c.requires.there c.requires.run h (c.comes_before.ensures c.if-not-comes_before.false) c.requires.fits c.in_default-written-2.is

pub returns-in_default-written-clause-ok : goal.returns-in_default-written-clause-ok
returns-in_default-written-clause-ok c = λ e. absurd (false≢true e)

pub put-requires-2 : goal.put-requires-2
put-requires-2 c =
    let h = subst (λ (o : Option HeadChange). IfSome o (ChangesAt (operation_of c.args.op.now) c.args.at.now)) c.in-Some.is c.in_ok-found.ensures in
    let lies = lies_in (operation_of c.args.op.now) c.args.at.now (whole c.text_around-2.result) c.in-Some.change c.text_around-2.ensures h in
    record {
      done = (c.comes_before.ensures c.if-not-comes_before.false).0;
      order = lies.order;
      edge = edge_in c.args.at.now (whole c.text_around-2.result) c.text_around-2.ensures c.args.run.now.run c.requires.run.run;
      start = lies.start;
      end = lies.end;
    }

pub returns-in_err-put-2-clause-err : goal.returns-in_err-put-2-clause-err
returns-in_err-put-2-clause-err c =
    let h = subst (λ (o : Option HeadChange). IfSome o (ChangesAt (operation_of c.args.op.now) c.args.at.now)) c.in-Some.is c.in_ok-found.ensures in
    let p = err_from_is_err_and c.from_residual-in_err-put-2.result c.from_residual-in_err-put-2.ensures.1 in
    rw (p.1, p.2) (change_fails c.args.at.now (operation_of c.args.op.now) c.args.run.now c.in-Some.change c.requires.there c.requires.run h (c.comes_before.ensures c.if-not-comes_before.false) c.requires.fits
    (whole c.text_around-2.result) c.text_around-2.ensures c.in-Some-written-2.written c.in-Some-written-2.is (string_bytes c.in_ok-new-2.new) c.in_ok-new-2.ensures c.in_err-put-2.field-0.0 c.in_err-put-2.ensures.err)

pub returns-clause-ok : goal.returns-clause-ok
returns-clause-ok c =
    let h = subst (λ (o : Option HeadChange). IfSome o (ChangesAt (operation_of c.args.op.now) c.args.at.now)) c.in-Some.is c.in_ok-found.ensures in
    λ _. change_on c.args.at.now (operation_of c.args.op.now) c.args.run.now c.in-Some.change c.requires.there c.requires.run h (c.comes_before.ensures c.if-not-comes_before.false) c.requires.fits
    (whole c.text_around-2.result) c.text_around-2.ensures c.in-Some-written-2.written c.in-Some-written-2.is (string_bytes c.in_ok-new-2.new)
    c.in_ok-new-2.ensures c.filled_now-run.result c.filled_now-run.ensures c.put-2.new.self c.in_ok-put-2.ensures.ok
