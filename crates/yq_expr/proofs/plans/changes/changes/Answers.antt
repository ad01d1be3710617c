use Rattle.std.{proofs.Common.{◌<◌, List, length, ap, sym, subst, ◌∙◌, arith, rules}, proofs.lemmas.List.map_push}
use Rattle.std.proofs.lemmas.Result.{err_from_is_err_and}
use Rattle.yq_core.specs.Tree.{Node}
use Rattle.yq_documents.{specs.Documents.Document, specs.Reading.documents_of}
use Rattle.yq_semantics.{specs.Changes.changes_in, specs.Rooms.room_of, specs.View.update_of}
use Rattle.yq_planner.{specs.ChangeView.{all_changes_under, changes_under}, specs.ValidChanges.{AreAllValid, AreValidChanges}}
use Rattle.yq_planner.proofs.ValidLaws.{each_more}
use Rattle.yq_eval.{proofs.EachLaws.failed, proofs.MatchLaws.document_there}
use Rattle.yq_expr.{proofs.AllChanges.{document_more, document_fails}, proofs.DocumentLaws.document_root}
use Rattle.yq_expr.proofs.plans.changes.changes.Goals as goal

pub changes_in-requires : goal.changes_in-requires
changes_in-requires c = document_root _ c.are_ready.ensures (omega (arith, c.count-doc-end.ensures, c.documents-test.true)) c.root-root.ensures.node

pub returns-in_err-changes_in-clause-changes : goal.returns-in_err-changes_in-clause-changes
returns-in_err-changes_in-clause-changes c =
    let docs : List Document = documents_of c.args.documents.now in
    let within : c.documents.doc < length docs = omega (arith, c.count-doc-end.ensures, c.documents-test.true) in
    let d = document_there docs c.documents.doc within in
    search (rules, err_from_is_err_and, failed, document_fails, c.root-root.ensures.node)

pub documents-preserved : goal.documents-preserved
documents-preserved c =
    let docs : List Document = documents_of c.args.documents.now in
    let within : c.documents.doc < length docs = omega (arith, c.count-doc-end.ensures, c.documents-test.true) in
    let d = document_there docs c.documents.doc within in
    record {
      valid = subst AreAllValid (sym c.in_ok-push.ensures.items)
          (each_more (λ x. AreValidChanges x.changes.items) c.documents.changes.items c.in_ok-changes_in.field-0 c.documents.invariant.valid c.in_ok-changes_in.ensures.valid);
      so_far = document_more (update_of c.args.update.now) (room_of c.args.documents.now) docs c.documents.doc d.0 (all_changes_under c.documents.changes.items) _ (changes_under c.in_ok-changes_in.field-0) _ d.2
          (ap all_changes_under c.in_ok-push.ensures.items ∙ map_push changes_under c.documents.changes.items c.in_ok-changes_in.field-0)
          (ap (λ (n : Node). changes_in (update_of c.args.update.now) c.documents.doc (room_of c.args.documents.now c.documents.doc) n) (sym (c.root-root.ensures.node d.0 d.1)) ∙ c.in_ok-changes_in.ensures.changes)
          c.documents.invariant.so_far;
    }
