use Rattle.std.{proofs.Common.{◌∙◌, ap, arith, sym}, proofs.lemmas.Option.IfSome_then}
use Rattle.yq_core.{specs.Entries.parts_of, specs.PlainText.begins_marker, specs.View.inline_view}
use Rattle.yq_batch.proofs.LeftLoops.{goes_up_to}
use Rattle.yq_batch.proofs.left.left_place.Goals as goal

pub returns-then-index-count-2 : goal.returns-then-index-count-2
returns-then-index-count-2 c =
    IfSome_then c.before_other.result c.before_other.ensures (λ x goes.
    goes_up_to c.args.text.now (parts_of (inline_view c.args.node.now)) c.args.index c.args.count c.args.after c.in-Some.start c.in-Some.end c.in-Some-part_place.next c.in-Some-part_place.field-0-1 c.begins_marker.result x
    (sym c.part_place.ensures ∙ c.in-Some.is) (sym c.part_place-then-index-count-2.ensures ∙ c.in-Some-part_place.is) (omega (arith, c.if-index-count-2.true))
    (λ _. ap begins_marker (sym c.bytes_after.ensures) ∙ sym c.begins_marker.ensures) (λ same. absurd (omega (arith, same, c.if-index-count-2.true))) goes)

pub returns-in-Some-after : goal.returns-in-Some-after
returns-in-Some-after c =
    IfSome_then c.before_other-in-Some-after.result c.before_other-in-Some-after.ensures (λ x goes.
    goes_up_to c.args.text.now (parts_of (inline_view c.args.node.now)) c.args.index c.args.count c.args.after c.in-Some.start c.in-Some.end c.in-Some-part_place-2.next c.in-Some-part_place-2.field-0-1 c.in-Some-after.marked x
    (sym c.part_place.ensures ∙ c.in-Some.is) (sym c.part_place-in-Some-after.ensures ∙ c.in-Some-part_place-2.is) (omega (arith, c.if-index-count.false))
    (λ less. absurd (omega (arith, less, c.if-index-count-2.false))) (λ _. c.in-Some-after.is) goes)
