use Rattle.std.{proofs.Common.{◌≡◌, ◌∙◌, List, Option, map, sym, ap, subst}, specs.Prelude.IfSome}
use Rattle.yq_text.specs.Halves.{whole}
use Rattle.yq_batch.{specs.OpenRows.AreBeforeEnd, specs.Slots.{AreInOrder, HasCounts, empty_slot, slots_of}}
use Rattle.yq_batch.{proofs.RowOpenAnswers.open_rows_begin, specs.declared.slots.SlotPlace.SlotPlace, specs.declared.slots.Slots.Slots}
use Rattle.yq_batch.proofs.open_rows.run_at.Goals as goal

pub returns : goal.returns
returns c m e is =
    let s = subst (λ (o : Option Slots). IfSome o (λ s. (slots_of s ≡ map empty_slot c.deref-3.result.now) × HasCounts s)) c.in-Some-2.is c.in_ok-slots.ensures in
    let ends = subst (λ (ps : List SlotPlace). AreBeforeEnd (whole c.args.text) ps c.args.end.now) (c.deref-2.ensures.value ∙ sym c.deref.ensures.value) (c.are_before_end.ensures c.if-not-are_before_end.false) in
    open_rows_begin (whole c.args.text) c.deref.result.now _ m c.args.end.now e c.requires
    (subst (AreInOrder 0 c.deref.result.now) c.len.ensures (c.are_in_order.ensures c.if-not-are_in_order.false)) ends is
    (s.0 ∙ ap (map empty_slot) (c.deref-3.ensures.value ∙ sym c.deref.ensures.value), s.1) c.len-2.ensures c.new.ensures.items
