use Rattle.std.proofs.Common.{◌≡◌, ◌⊎◌, inr, ℕ, ◌+◌, ◌<◌, List, length, Option, Some, None, sym, ◌∙◌, subst, arith, rules}
use Rattle.std.proofs.lemmas.Result.{err_from_is_err_and}
use Rattle.yq_core.specs.Tree.{Node}
use Rattle.yq_documents.{specs.Documents.Document, specs.Reading.documents_of}
use Rattle.yq_nodes.specs.Nodes.{node_of}
use Rattle.yq_semantics.{specs.Operations.{Operation, operations_of}, specs.Rooms.room_of, specs.View.update_of}
use Rattle.yq_eval.proofs.MatchLaws.{document_there}
use Rattle.yq_expr.{specs.Parts.{IsPlanPart, document_ops}, proofs.ChildPlaces.nothing_before}
use Rattle.yq_expr.{proofs.PartLaws.{document_fails, next_document, same_document}, proofs.DocumentLaws.document_root}
use Rattle.yq_expr.{specs.Oversized.GivesOversizedOps, proofs.OversizedOps.rest_begins}
use Rattle.yq_expr.proofs.plans.parts.part_of.Goals as goal

pub documents-init : goal.documents-init
documents-init c = search (rules, nothing_before)

-- what is no later than one document comes before the end of it
before_next : (doc at place first : ℕ) → (at ≡ doc) × (place ≡ first) ⊎ (doc < at) → doc < at + 1
before_next doc at place first h = search rules

pub document_part-requires : goal.document_part-requires
document_part-requires c = record {
  document = document_root _ c.are_ready.ensures (omega (arith, c.count.ensures, c.documents-test.true)) c.root.ensures.node;
  fresh = c.documents.invariant.fresh;
}

pub returns-in_err-next-clause-err : goal.returns-in_err-next-clause-err
returns-in_err-next-clause-err c =
    let docs : List Document = documents_of c.args.documents.now in
    let within : c.documents.at < length docs = omega (arith, c.count.ensures, c.documents-test.true) in
    let d = document_there docs c.documents.at within in
    search (rules, err_from_is_err_and, document_fails, c.root.ensures.node)

pub returns-in-Some-clause-part : goal.returns-in-Some-clause-part
returns-in-Some-clause-part c =
    let docs : List Document = documents_of c.args.documents.now in
    let within : c.documents.at < length docs = omega (arith, c.count.ensures, c.documents-test.true) in
    let d = document_there docs c.documents.at within in
    let before : List Operation = operations_of c.documents.part.ops.items in
    let after : List Operation = operations_of c.document_part.new.part.ops.items in
    let part = subst (λ (o : Option ℕ). IsPlanPart
    (document_ops (update_of c.args.update.now) c.documents.at (room_of c.args.documents.now c.documents.at) (node_of c.root.result))
    c.documents.place before after o) c.in-Some.is c.in_ok-next.ensures.part in
    let there = subst (λ (n : Node). IsPlanPart
    (document_ops (update_of c.args.update.now) c.documents.at (room_of c.args.documents.now c.documents.at) n) c.documents.place before after
    (Some c.in-Some.place)) (c.root.ensures.node d.0 d.1) part in
    sym c.documents.invariant.so_far ∙ same_document (update_of c.args.update.now) (room_of c.args.documents.now) docs c.documents.at d.0 d.2 c.documents.place c.in-Some.place before after there

pub documents-preserved : goal.documents-preserved
documents-preserved c =
    let docs : List Document = documents_of c.args.documents.now in
    let within : c.documents.at < length docs = omega (arith, c.count.ensures, c.documents-test.true) in
    let d = document_there docs c.documents.at within in
    let before : List Operation = operations_of c.documents.part.ops.items in
    let after : List Operation = operations_of c.document_part.new.part.ops.items in
    let part = subst (λ (o : Option ℕ). IsPlanPart
    (document_ops (update_of c.args.update.now) c.documents.at (room_of c.args.documents.now c.documents.at) (node_of c.root.result))
    c.documents.place before after o) c.in-None.is c.in_ok-next.ensures.part in
    let there = subst (λ (n : Node). IsPlanPart (document_ops (update_of c.args.update.now) c.documents.at (room_of c.args.documents.now c.documents.at) n) c.documents.place before after None) (c.root.ensures.node d.0 d.1) part in
    let later : c.args.doc < c.documents.at + 1 = before_next c.args.doc c.documents.at c.documents.place c.args.place c.documents.invariant.later in
    record {
      later = inr later;
      within = omega (arith, within);
      fresh = c.in_ok-next.ensures.fresh c.in-None.is;
      valid = c.in_ok-next.ensures.valid c.documents.invariant.valid;
      room = λ same. absurd (omega (arith, later, same));
      so_far = sym (next_document (update_of c.args.update.now) (room_of c.args.documents.now) docs c.documents.at d.0 d.2 c.documents.place before after there) ∙ c.documents.invariant.so_far;
    }

pub returns-in-Some-clause-large : goal.returns-in-Some-clause-large
returns-in-Some-clause-large c = λ holds is.
    let docs : List Document = documents_of c.args.documents.now in
    let within : c.documents.at < length docs = omega (arith, c.count.ensures, c.documents-test.true) in
    let d = document_there docs c.documents.at within in
    let u = update_of c.args.update.now in
    let large = (rw c.in-Some.is at c.in_ok-next.ensures.ends).large is holds in
    rest_begins u (room_of c.args.documents.now) docs c.documents.at d.0 d.2 c.in-Some.place
    (subst (λ (n : Node). GivesOversizedOps (document_ops u c.documents.at (room_of c.args.documents.now c.documents.at) n c.in-Some.place)) (c.root.ensures.node d.0 d.1) large)
