use Rattle.std.{proofs.Common.{ℕ, length, refl, sym, ap, ◌∙◌, arith}, proofs.lemmas.List.length-drop}
use Rattle.yq_core.specs.Borrowed.{is_borrowed}
use Rattle.yq_row_table.specs.View.{slices}
use Rattle.yq_documents.specs.Decoded.{begins_flow, borrowed_depth}
use Rattle.yq_documents.proofs.LentHeads.{alias_given, collection_given, collection_here, other_given, pieces, row_here}
use Rattle.yq_documents.proofs.of_row.borrowed_flow.Goals as goal

pub returns-then-not-begins_flow : goal.returns-then-not-begins_flow
returns-then-not-begins_flow c = λ k r is.
    other_given k r is c.head-head.result.now (c.head-head.ensures (slices r) (pieces k r is)) (ap begins_flow (sym c.as_bytes.ensures.value) ∙ (sym c.begins_flow.ensures ∙ c.if-not-begins_flow.true))

pub returns-in-Some : goal.returns-in-Some
returns-in-Some c = λ k r is.
    alias_given k r is c.head-head.result.now (c.head-head.ensures (slices r) (pieces k r is)) c.head_place-start.result.0 (ap (λ (x : ℕ × ℕ). x.0) (c.head_place-start.ensures k.cut k.rows r is))
    c.in-Some.name c.in-Some.ensures.0 c.in-Some.ensures.1

pub split_at-requires : goal.split_at-requires
split_at-requires c =
    let k = c.requires in
    let r = row_here k (omega (arith, c.if-i-len.false, c.len.ensures)) in
    (collection_here k r.0 r.1 c.head-head.result.now (c.head-head.ensures (slices r.0) (pieces k r.0 r.1)) c.head_place-start.result.0 (ap (λ (x : ℕ × ℕ). x.0) (c.head_place-start.ensures k.cut k.rows r.0 r.1))
    (ap begins_flow (sym c.as_bytes.ensures.value) ∙ (sym c.begins_flow.ensures ∙ c.if-not-begins_flow.false)) (c.in_default.ensures)).boundary

pub invariant_of-result : goal.invariant_of-result
invariant_of-result c =
    let k = c.requires in
    let r = row_here k (omega (arith, c.if-i-len.false, c.len.ensures)) in
    let x = collection_here k r.0 r.1 c.head-head.result.now (c.head-head.ensures (slices r.0) (pieces k r.0 r.1)) c.head_place-start.result.0 (ap (λ (x : ℕ × ℕ). x.0) (c.head_place-start.ensures k.cut k.rows r.0 r.1))
    (ap begins_flow (sym c.as_bytes.ensures.value) ∙ (sym c.begins_flow.ensures ∙ c.if-not-begins_flow.false)) (c.in_default.ensures) in
    record {
      within = omega (arith, ap length c.split_at.ensures.back, length-drop c.head_place-start.result.0 c.args.text.now);
      borrowed = ap (is_borrowed borrowed_depth) c.split_at.ensures.back ∙ x.borrowed;
    }

pub returns : goal.returns
returns c = λ k r is.
    collection_given k r is c.head-head.result.now (c.head-head.ensures (slices r) (pieces k r is)) c.head_place-start.result.0 (ap (λ (x : ℕ × ℕ). x.0) (c.head_place-start.ensures k.cut k.rows r is))
    _ (ap begins_flow (sym c.as_bytes.ensures.value) ∙ (sym c.begins_flow.ensures ∙ c.if-not-begins_flow.false)) (c.in_default.ensures) refl refl c.split_at.ensures.back
