use Rattle.std.{proofs.Common.{◌≡◌, ◌∙◌, ℕ, List, Some, refl, sym, ap, subst, string_bytes}, specs.Str.IsCharBoundary}
use Rattle.std.proofs.lemmas.Str.{IsCharBoundary-start}
use Rattle.yq_text.specs.Halves.{whole}
use Rattle.yq_row_table.specs.Rows.{cut_text}
use Rattle.yq_documents.specs.Reading.{cut_of, read_at}
use Rattle.yq_semantics.specs.Operations.{operation_of, operations_of}
use Rattle.yq_edit_laws.{proofs.CutLaws.text_read, proofs.FlowAnswers.whole_text, specs.Carried.carry_all}
use Rattle.yq_edit_laws.proofs.OperationsLaws.{first_fits, others_come, others_served}
use Rattle.yq_batch.{specs.OpenRuns.{MayWrite, open_text}, specs.Slots.{slots_of, text_from}}
use Rattle.yq_batch.{proofs.RowOpenAnswers.{change_edges, first_put, opens_change}, proofs.CarriedFirst.carries_some}
use Rattle.yq_batch.proofs.any_row.carry_in_any_row.Goals as goal

pub begun-requires : goal.begun-requires
begun-requires c = c.requires.1.operands

pub put_in_rows-requires-clause-start : goal.put_in_rows-requires-clause-start
put_in_rows-requires-clause-start c =
    let t : List ℕ = c.args.cut.now in
    let x = first_put (cut_of t) c.operations.invariant.document c.operations.invariant.end c.operations.rest.now c.operations.left.now c.known-item.result c.in-Some-known.change c.in-len1-up.len_at_least c.in-len1-up-left.len_at_least
    c.operations.invariant.puts c.known-item.is c.in-Some-known.is in
    subst (λ (l : List ℕ). IsCharBoundary l c.in-Some-known.change.place.start) (sym (whole_text t (whole c.text-text.result) c.text-text.ensures.read c.text-text.ensures.text))
    (change_edges (cut_of t) c.operations.invariant.document c.operations.invariant.end (operation_of x.0) c.in-Some-known.change c.operations.run c.operations.invariant.runs x.2).0

pub put_in_rows-requires-clause-end : goal.put_in_rows-requires-clause-end
put_in_rows-requires-clause-end c =
    let t : List ℕ = c.args.cut.now in
    let x = first_put (cut_of t) c.operations.invariant.document c.operations.invariant.end c.operations.rest.now c.operations.left.now c.known-item.result c.in-Some-known.change c.in-len1-up.len_at_least c.in-len1-up-left.len_at_least
    c.operations.invariant.puts c.known-item.is c.in-Some-known.is in
    subst (λ (l : List ℕ). IsCharBoundary l c.in-Some-known.change.place.end) (sym (whole_text t (whole c.text-text.result) c.text-text.ensures.read c.text-text.ensures.text))
    (change_edges (cut_of t) c.operations.invariant.document c.operations.invariant.end (operation_of x.0) c.in-Some-known.change c.operations.run c.operations.invariant.runs x.2).1

pub operations-preserved : goal.operations-preserved
operations-preserved c =
    let t : List ℕ = c.args.cut.now in
    let doc : ℕ = c.operations.invariant.document in
    let x = first_put (cut_of t) doc c.operations.invariant.end c.operations.rest.now c.operations.left.now c.known-item.result c.in-Some-known.change c.in-len1-up.len_at_least c.in-len1-up-left.len_at_least
    c.operations.invariant.puts c.known-item.is c.in-Some-known.is in
    let old : List ℕ = open_text (cut_of t) c.operations.run in
    let new : List ℕ = open_text (cut_of t) c.put_in_rows.new.self in
    let again : read_at (cut_text (cut_of t)) ≡ Some (cut_of t) = ap read_at (text_read t (cut_of t) c.text-text.ensures.read) ∙ c.text-text.ensures.read in
    let fits = first_fits c.operations.rest.now x.0 old c.in-len1-up.len_at_least x.1 c.operations.invariant.serves in
    let on = opens_change (cut_of t) doc c.operations.invariant.end again (operation_of x.0) c.operations.run c.in-Some-known.change c.operations.invariant.runs fits x.2 (whole c.text-text.result)
    (whole_text t (whole c.text-text.result) c.text-text.ensures.read c.text-text.ensures.text) c.put_in_rows.new.self (c.in_ok-put_in_rows.ensures c.if-not-branch.false) in
    record {
      document = doc;
      end = c.operations.invariant.end;
      puts = x.3;
      whole =
          others_come c.operations.rest.now x.0 old new c.operations.run.splices.items on.new_bytes c.put_in_rows.new.self.splices.items c.in-len1-up.len_at_least x.1 on.comes on.splices
          ∙ c.operations.invariant.whole;
      serves = others_served c.operations.rest.now x.0 old new on.new_bytes c.in-len1-up.len_at_least x.1 c.operations.invariant.serves on.applied;
      runs = on.run;
    }

pub ended-requires-clause-edge : goal.ended-requires-clause-edge
ended-requires-clause-edge c = subst (λ (l : List ℕ). IsCharBoundary l 0) (sym c.text-text.ensures.text) (IsCharBoundary-start c.args.cut.now c.text-text.ensures.utf8)

pub ended-requires-clause-places : goal.ended-requires-clause-places
ended-requires-clause-places c =
    let r = c.operations.invariant.runs.run in
    subst (λ (l : List ℕ). MayWrite l 0 (slots_of c.operations.run.slots)) (sym (whole_text c.args.cut.now (whole c.text-text.result) c.text-text.ensures.read c.text-text.ensures.text)) (r.edges, r.order)

pub returns : goal.returns
returns c =
    let t : List ℕ = c.args.cut.now in
    let all : whole c.text-text.result ≡ cut_text (cut_of t) = whole_text t (whole c.text-text.result) c.text-text.ensures.read c.text-text.ensures.text in
    let text : string_bytes c.in_ok-edited.edited.text ≡ open_text (cut_of t) c.operations.run = c.in_ok-edited.ensures.text ∙ ap (λ (l : List ℕ). text_from l 0 (slots_of c.operations.run.slots)) all in
    carries_some c.operations.rest.now (open_text (cut_of t) c.operations.run) c.operations.run.splices.items (carry_all (operations_of c.args.ops.now) t) _ refl text c.in_ok-edited.ensures.splices
    c.operations.invariant.whole c.operations.invariant.serves
