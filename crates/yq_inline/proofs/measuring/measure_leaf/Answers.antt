use Rattle.std.proofs.Common.{rules, Some, sym, ap, ◌∙◌, false}
use Rattle.yq_core.{specs.Nodes.begins_content, specs.Reading.name_at}
use Rattle.yq_inline.specs.declared.measuring.MeasuredKind.{MeasuredKind}
use Rattle.yq_inline.proofs.MeasureSteps.{named_none, named_some, nothing_here, scalar_none, scalar_some}
use Rattle.yq_inline.proofs.measuring.measure_leaf.Goals as goal

pub returns-in_err-rest-clause-read : goal.returns-in_err-rest-clause-read
returns-in_err-rest-clause-read c = search (rules, named_none)

pub returns-in-Some-clause-read : goal.returns-in-Some-clause-read
returns-in-Some-clause-read c =
    named_some c.args.flow c.args.spaces 0 c.args.text.now c.in_ok-rest.field-0-0.now c.in_ok-rest.rest.now c.in-Some.ensures.0
    (ap name_at (sym c.in-Some.ensures.1) ∙ c.in_ok-rest.ensures.read)
    ∙ ap Some (sym c.unanchored.ensures)

pub returns-in_err-piece-clause-read : goal.returns-in_err-piece-clause-read
returns-in_err-piece-clause-read c = search (rules, scalar_none)

pub returns-then-begins_content-clause-read : goal.returns-then-begins_content-clause-read
returns-then-begins_content-clause-read c =
    scalar_some c.args.flow c.args.spaces 0 c.args.text.now c.in_ok-piece.piece.now c.in_ok-piece.rest.now c.in_default.ensures c.requires.sequence c.requires.mapping
    (sym (c.if-begins_content.ensures ∙ ap (begins_content c.args.flow) c.as_bytes.ensures.value)) c.in_ok-piece.ensures.read
    ∙ ap Some (ap (λ (k : MeasuredKind). ((false, k), c.in_ok-piece.rest.now)) (sym c.kind_of.ensures) ∙ sym c.unanchored-then-begins_content.ensures)

pub returns-clause-read : goal.returns-clause-read
returns-clause-read c =
    nothing_here c.args.flow c.args.spaces 0 c.args.text.now c.in_default.ensures c.requires.sequence c.requires.mapping
    (sym (c.if-begins_content.ensures ∙ ap (begins_content c.args.flow) c.as_bytes.ensures.value))
    ∙ ap Some (sym c.unanchored-2.ensures)
