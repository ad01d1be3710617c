use Rattle.std.proofs.Common.{refl, map, sym, ap, ◌∙◌}
use Rattle.yq_core.specs.Entries.{tree_step}
use Rattle.yq_documents.specs.Located.{steps_of}
use Rattle.yq_places.specs.Placements.{last_step}
use Rattle.yq_semantics.specs.Operations.{operation_of, remove}
use Rattle.yq_batch.proofs.RowRemovalAnswers.{one_apart, two_apart}
use Rattle.yq_batch.proofs.row_removals.taken_first.Goals as goal

pub returns-in_default-ops : goal.returns-in_default-ops
returns-in_default-ops c =
    let last = c.in-Some.ensures ∙ ap (λ ss. last_step (map tree_step ss)) c.deref.ensures.value in
    let own = ap operation_of c.in-Remove.is ∙ ap (λ k. remove k (steps_of c.in-Remove.path)) c.if-path-doc.false in
    let apart = one_apart c.args.ops.now c.op-item.result c.in-len1-up.len_at_least c.op-item.is in
    record { above = _; rest = apart.0; ops_are = apart.1; takes = (steps_of c.in-Remove.path, (own, (_, sym last))); next_takes = λ is. absurd (cc) }

pub returns : goal.returns
returns c =
    let last = c.in-Some.ensures ∙ ap (λ ss. last_step (map tree_step ss)) c.deref.ensures.value in
    let own = ap operation_of c.in-Remove.is ∙ ap (λ k. remove k (steps_of c.in-Remove.path)) c.if-path-doc.false in
    let apart = two_apart c.args.ops.now c.op-item.result c.next-item.result c.in-len2-up.len_at_least c.op-item.is c.next-item.is in
    record { above = _; rest = _; ops_are = apart.1; takes = (steps_of c.in-Remove.path, (own, (_, sym last))); next_takes = λ is. (_, _, refl, c.takes_from.ensures is) }
