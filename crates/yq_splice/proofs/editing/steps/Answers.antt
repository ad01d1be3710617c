use Rattle.std.{proofs.Common.{List, ℕ, Option, Some, sym, ap, ◌∙◌, subst, IfSome}, proofs.lemmas.Result.err_from_is_err_and}
use Rattle.std.specs.String.{string_bytes}
use Rattle.yq_row_table.specs.View.{rows_view}
use Rattle.yq_documents.specs.Reading.{cut_of, documents_of}
use Rattle.yq_semantics.{specs.View.program_of, specs.declared.op.Op.Op}
use Rattle.yq_expr.specs.FixedPaths.{IsSole, PlansAlone}
use Rattle.yq_edit_laws.specs.Theorems.{HasReading}
use Rattle.yq_splice.{specs.Updates.{FailAfter, LeadOn}, proofs.SessionLaws.has_reading}
use Rattle.yq_splice.proofs.UpdateSteps.{led_fails, led_more, led_no_more}
use Rattle.yq_splice.proofs.editing.steps.Goals as goal

pub returns-in_err-planned-clause-err : goal.returns-in_err-planned-clause-err
returns-in_err-planned-clause-err c =
    let p = err_from_is_err_and c.from_residual.result c.from_residual.ensures.1 in
    rw (p.1, p.2)
    (λ t led. led_no_more (program_of c.args.program.now) t)

pub returns-in_err-session-clause-err : goal.returns-in_err-session-clause-err
returns-in_err-session-clause-err c =
    let p = err_from_is_err_and c.from_residual-in_err-session.result c.from_residual-in_err-session.ensures.1 in
    rw (p.1, p.2)
    (λ t led. led_no_more (program_of c.args.program.now) t)

pub returns-in_err-edited-clause-err : goal.returns-in_err-edited-clause-err
returns-in_err-edited-clause-err c =
    let p = err_from_is_err_and c.from_residual-in_err-edited.result c.from_residual-in_err-edited.ensures.1 in
    rw (p.1, p.2)
    (λ t led. led_fails (program_of c.args.program.now) c.args.nth t c.args.text.now c.args.splices.items _ c.requires.within led c.in_err-edited.ensures.err)

pub session_on-requires-clause-rows : goal.session_on-requires-clause-rows
session_on-requires-clause-rows c = c.into_rows.ensures ∙ ap (λ (t : List ℕ). rows_view (cut_of t)) c.requires.same

pub session_on-requires-clause-read : goal.session_on-requires-clause-read
session_on-requires-clause-read c = c.requires.read ∙ ap (λ (t : List ℕ). Some (cut_of t)) c.requires.same

pub update_session-requires-clause-read : goal.update_session-requires-clause-read
update_session-requires-clause-read c = subst HasReading (sym c.in_ok-session.ensures) (has_reading c.args.text.now (cut_of c.args.documents) c.requires.read)

pub update_session-requires-clause-sole : goal.update_session-requires-clause-sole
update_session-requires-clause-sole c =
    let text = c.requires.same ∙ sym c.in_ok-session.ensures in
    subst (λ (x : List ℕ). IsSole (documents_of x)) text (subst (λ (o : Option Op). IfSome o (λ _. IsSole (documents_of c.args.documents))) c.in-Some.is c.in_ok-planned.ensures.sole)

pub update_session-requires-clause-plans : goal.update_session-requires-clause-plans
update_session-requires-clause-plans c =
    let text = c.requires.same ∙ sym c.in_ok-session.ensures in
    subst (λ (x : List ℕ). PlansAlone c.args.nth c.args.program.now x c.in-Some.first) text (subst (λ (o : Option Op). IfSome o (PlansAlone c.args.nth c.args.program.now c.args.documents)) c.in-Some.is c.in_ok-planned.ensures.plans)

pub returns-in-Some-clause-ok : goal.returns-in-Some-clause-ok
returns-in-Some-clause-ok c = rw c.unnamed.ensures
    (subst (λ (x : List ℕ). LeadOn (program_of c.args.program.now) c.args.nth x c.args.splices.items c.update_session.result) c.in_ok-session.ensures c.update_session.ensures.ok)

pub returns-in-Some-clause-err : goal.returns-in-Some-clause-err
returns-in-Some-clause-err c = rw c.unnamed.ensures
    (subst (λ (x : List ℕ). FailAfter (program_of c.args.program.now) c.args.nth x c.args.splices.items c.update_session.result) c.in_ok-session.ensures c.update_session.ensures.err)

pub returns-clause-ok : goal.returns-clause-ok
returns-clause-ok c =
    λ t led. led_more (program_of c.args.program.now) c.args.nth t c.args.text.now (string_bytes c.in_ok-edited.edited.text) c.args.splices.items
    c.in_ok-edited.edited.splices.items c.requires.within led c.in_ok-edited.ensures.ok
