use Rattle.std.proofs.Common.{◌≡◌, ◌∙◌, ◌<◌, ◌^◌, ℕ, List, length, map, refl, sym, subst, ap, string_bytes}
use Rattle.std.{proofs.lemmas.Result.err_from_is_err_and, specs.Prelude.{IfErr, IfOk, IfSome}, specs.Str.IsCharBoundary}
use Rattle.yq_text.specs.Halves.{whole}
use Rattle.yq_core.specs.Entries.{tree_step}
use Rattle.yq_row_table.specs.Rows.{cut_text}
use Rattle.yq_documents.specs.Reading.{cut_of}
use Rattle.yq_semantics.specs.Operations.{operations_of}
use Rattle.yq_edit_laws.{specs.Answers.EditFails, specs.Carried.carry_all, specs.Edit.Edit, specs.Valid.AreServed}
use Rattle.yq_edit_laws.{proofs.CutLaws.text_small, proofs.FlowAnswers.whole_text}
use Rattle.yq_batch.{specs.Runs.{now_text, text_with_run}, specs.Together.CarriesSome, proofs.CarriedFirst.{all_begin, carries_some}}
use Rattle.yq_batch.{proofs.HeadRunLaws.some_is, proofs.RunAnswers.{begins, begins_with}}
use Rattle.yq_batch.proofs.heads.put_in_heads.Goals as goal

pub put_in_head-requires-clause-there : goal.put_in_head-requires-clause-there
put_in_head-requires-clause-there c = record { read = c.text-text.ensures.read; reports = c.requires.head }

pub put_in_head-requires-clause-run : goal.put_in_head-requires-clause-run
put_in_head-requires-clause-run c =
    begins c.args.cut.now c.args.found.doc (map tree_step c.args.found.stem.now) c.in_ok-run.run'.run c.text-text.ensures.read c.requires.head.leads c.in_ok-run.ensures.text c.in_ok-run.ensures.done

pub put_in_head-requires-clause-serves : goal.put_in_head-requires-clause-serves
put_in_head-requires-clause-serves c =
    subst (AreServed (operations_of c.args.ops.now)) (sym (begins_with c.args.cut.now c.in_ok-run.run'.run c.text-text.ensures.read c.in_ok-run.ensures.text c.in_ok-run.ensures.done)) c.requires.serves

pub put_in_any_order-requires-clause-there : goal.put_in_any_order-requires-clause-there
put_in_any_order-requires-clause-there c = record { read = c.text-text.ensures.read; reports = c.requires.head }

pub put_in_later-requires-clause-run : goal.put_in_later-requires-clause-run
put_in_later-requires-clause-run c = (some_is _ c.in_ok-left.field-0 c.in-Some.left c.in_ok-left.ensures.ok c.in-Some.is).1

pub put_in_later-requires-clause-serves : goal.put_in_later-requires-clause-serves
put_in_later-requires-clause-serves c = (some_is _ c.in_ok-left.field-0 c.in-Some.left c.in_ok-left.ensures.ok c.in-Some.is).0.serves

pub returns-in_err-left-clause-err : goal.returns-in_err-left-clause-err
returns-in_err-left-clause-err c =
    let p = err_from_is_err_and c.from_residual-in_err-left.result c.from_residual-in_err-left.ensures.1 in
    let new = c.in_ok-run.ensures in
    rw (p.1, p.2) (subst (EditFails c.in_err-left.field-0.0) (all_begin c.args.cut.now c.in_ok-run.run'.run c.args.ops.now c.text-text.ensures.read new.text new.done new.splices) c.in_err-left.ensures.err)

pub returns-then-not-is_empty-clause-ok : goal.returns-then-not-is_empty-clause-ok
returns-then-not-is_empty-clause-ok c =
    let new = c.in_ok-run.ensures in
    let carried = some_is _ c.in_ok-left.field-0 c.in-Some.left c.in_ok-left.ensures.ok c.in-Some.is in
    let whole = carried.0.whole ∙ all_begin c.args.cut.now c.in_ok-run.run'.run c.args.ops.now c.text-text.ensures.read new.text new.done new.splices in
    subst (λ (e : Edit). IfOk c.put_in_later.result (λ o. IfSome o (CarriesSome e))) whole c.put_in_later.ensures.ok

pub returns-then-not-is_empty-clause-err : goal.returns-then-not-is_empty-clause-err
returns-then-not-is_empty-clause-err c =
    let new = c.in_ok-run.ensures in
    let carried = some_is _ c.in_ok-left.field-0 c.in-Some.left c.in_ok-left.ensures.ok c.in-Some.is in
    let whole = carried.0.whole ∙ all_begin c.args.cut.now c.in_ok-run.run'.run c.args.ops.now c.text-text.ensures.read new.text new.done new.splices in
    subst (λ (e : Edit). IfErr c.put_in_later.result (λ x. EditFails x e)) whole c.put_in_later.ensures.err

pub end-requires : goal.end-requires
end-requires c =
    let t : List ℕ = c.args.cut.now in
    let carried = some_is _ c.in_ok-left.field-0 c.in-Some.left c.in_ok-left.ensures.ok c.in-Some.is in
    subst (λ (l : List ℕ). IsCharBoundary l c.put_in_head.new.run.run.done) (sym (whole_text t (whole c.text-text.result) c.text-text.ensures.read c.text-text.ensures.text)) carried.1.edge

pub returns-clause-ok : goal.returns-clause-ok
returns-clause-ok c =
    let t : List ℕ = c.args.cut.now in
    let new = c.in_ok-run.ensures in
    let r = c.put_in_head.new.run.run in
    let carried = some_is _ c.in_ok-left.field-0 c.in-Some.left c.in_ok-left.ensures.ok c.in-Some.is in
    let same : whole c.text-text.result ≡ cut_text (cut_of t) = whole_text t (whole c.text-text.result) c.text-text.ensures.read c.text-text.ensures.text in
    let text = c.in_ok-edited.ensures.text ∙ ap (λ (l : List ℕ). text_with_run l (string_bytes r.text) r.done) same in
    carries_some c.in-Some.left.now (now_text (cut_of t) r) r.splices.items (carry_all (operations_of c.args.ops.now) t) _ refl text c.in_ok-edited.ensures.splices
    (carried.0.whole ∙ all_begin t c.in_ok-run.run'.run c.args.ops.now c.text-text.ensures.read new.text new.done new.splices) carried.0.serves

pub len-requires : goal.len-requires
len-requires c = subst (λ (l : List ℕ). length l < 2 ^ 64) (sym c.text-text.ensures.text) (text_small c.args.cut.now (cut_of c.args.cut.now) c.text-text.ensures.read)
