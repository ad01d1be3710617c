use Rattle.std.{proofs.Common.{◌≡◌, ◌∙◌, ℕ, List, map, refl, sym, subst, ap, string_bytes}, specs.Str.IsCharBoundary}
use Rattle.yq_text.specs.Halves.{whole}
use Rattle.yq_core.specs.Entries.{tree_step}
use Rattle.yq_row_table.specs.Rows.{cut_text}
use Rattle.yq_documents.specs.Reading.{cut_of}
use Rattle.yq_edit_laws.proofs.FlowAnswers.{whole_text}
use Rattle.yq_batch.{specs.HeadRuns.{IsRowAt, all_on}, specs.Runs.{now_text, text_with_run}, proofs.CarriedFirst.carries_some}
use Rattle.yq_batch.proofs.HeadRunLaws.{rows_run, some_is}
use Rattle.yq_batch.proofs.heads.put_in_later.Goals as goal

pub heads-init : goal.heads-init
heads-init c =
    let t : List ℕ = c.args.cut.now in
    let row = some_is (IsRowAt (cut_of c.again-way.result) c.args.head.0 (map tree_step c.args.head.1.now)) c.in_ok-first.field-0 c.in-Some.first c.in_ok-first.ensures.row c.in-Some.is in
    record {
      same = c.row_at.ensures.same ∙ c.again-way.ensures;
      whole = refl;
      serves = c.requires.serves;
      runs = rows_run t c.args.run.run c.args.head.0 c.in-Some.first (map tree_step c.args.head.1.now) c.text-text.ensures.read c.requires.run
          (subst (λ (u : List ℕ). IsRowAt (cut_of u) c.args.head.0 (map tree_step c.args.head.1.now) c.in-Some.first) c.again-way.ensures row);
    }

pub end-requires : goal.end-requires
end-requires c =
    subst (λ (l : List ℕ). IsCharBoundary l c.heads.run.run.done) (sym (whole_text c.args.cut.now (whole c.text-text.result) c.text-text.ensures.read c.text-text.ensures.text)) c.heads.invariant.runs.run.edge

pub returns-clause-ok : goal.returns-clause-ok
returns-clause-ok c =
    let t : List ℕ = c.args.cut.now in
    let same : whole c.text-text.result ≡ cut_text (cut_of t) = whole_text t (whole c.text-text.result) c.text-text.ensures.read c.text-text.ensures.text in
    let text = c.in_ok-edited.ensures.text ∙ ap (λ (l : List ℕ). text_with_run l (string_bytes c.heads.run.run.text) c.heads.run.run.done) same in
    carries_some c.heads.rest.now (now_text (cut_of t) c.heads.run.run) c.heads.run.run.splices.items (all_on c.args.ops.now (cut_of t) c.args.run.run) _ refl text
    c.in_ok-edited.ensures.splices c.heads.invariant.whole c.heads.invariant.serves
