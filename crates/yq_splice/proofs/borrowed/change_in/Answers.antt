use Rattle.std.proofs.Common.{List, ℕ, IfOk, sym, ◌∙◌, subst}
use Rattle.yq_text.specs.Halves.{whole}
use Rattle.yq_splice.{specs.Session.{Knows, KnowsAfter}, proofs.SessionLaws.on_err_then}
use Rattle.yq_row_table.specs.View.{rows_view}
use Rattle.yq_documents.specs.Reading.{cut_of}
use Rattle.yq_splice.proofs.borrowed.change_in.Goals as goal

pub returns-clause-known : goal.returns-clause-known
returns-clause-known c = subst (λ (t : List ℕ). IfOk c.change_one.result (KnowsAfter t c.change_one.new.known)) c.resumed-cut.ensures c.change_one.ensures.known

pub returns-clause-kept : goal.returns-clause-kept
returns-clause-kept c =
    let t = whole c.args.text in
    on_err_then c.change_one.result _ _
    (λ same. subst (Knows t) (sym (same ∙ c.replace-before.ensures.after)) (c.none.ensures (rows_view (cut_of t)))) c.change_one.ensures.kept
