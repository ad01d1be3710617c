use Rattle.std.{proofs.Common.{◌≡◌, ◌∙◌, Option, map, sym, ap, subst}, specs.Prelude.IfSome}
use Rattle.yq_text.specs.Halves.{whole}
use Rattle.yq_batch.{specs.Slots.{AreInOrder, HasCounts, empty_slot, slots_of}, proofs.UnorderedAnswers.open_begins}
use Rattle.yq_batch.specs.declared.slots.Slots.{Slots}
use Rattle.yq_batch.proofs.unordered.begun.Goals as goal

pub returns : goal.returns
returns c =
    let s = subst (λ (o : Option Slots). IfSome o (λ s. (slots_of s ≡ map empty_slot c.deref-2.result.now) × HasCounts s)) c.in-Some-2.is c.in_ok-slots.ensures in
    open_begins c.args.at.now (whole c.text_around-text.result) c.deref.result.now (record { slots = c.in-Some-2.slots; size = c.len-2.result; splices = c.new.result }) c.requires.there c.text_around-text.ensures
    (subst (AreInOrder 0 c.deref.result.now) c.len.ensures (c.are_in_order.ensures c.if-not-are_in_order.false))
    (s.0 ∙ ap (map empty_slot) (c.deref-2.ensures.value ∙ sym c.deref.ensures.value), s.1) c.len-2.ensures c.new.ensures.items
