use Rattle.std.{proofs.Common.{◌≡◌, ◌∙◌, ◌++◌, Option, map, sym, ap, subst}, specs.Prelude.IfSome, proofs.lemmas.List.map-append}
use Rattle.yq_batch.{specs.Slots.{HasCounts, empty_slot, news_of, olds_of, slots_of}, proofs.SlotCounts.{none_news, none_olds}}
use Rattle.yq_batch.specs.declared.slots.Slots.{Slots}
use Rattle.yq_batch.proofs.slots.+slots_at.Goals as goal

pub returns : goal.returns
returns t c =
    let l = subst (λ (o : Option Slots). IfSome o (λ s. (slots_of s ≡ map empty_slot c.split_at.result.0.now) × HasCounts s)) c.in-Some.is c.in_ok-left.ensures in
    let r = subst (λ (o : Option Slots). IfSome o (λ s. (slots_of s ≡ map empty_slot c.split_at.result.1.now) × HasCounts s)) c.in-Some-2.is c.in_ok-right.ensures in
    let left : slots_of c.in_ok-left-2.left.value ≡ map empty_slot c.split_at.result.0.now = ap slots_of c.in_ok-left-2.ensures.ok ∙ l.0 in
    let right : slots_of c.in_ok-right-2.right.value ≡ map empty_slot c.split_at.result.1.now = ap slots_of c.in_ok-right-2.ensures.ok ∙ r.0 in (
      (λ i. left i ++ right i) ∙ (sym (map-append empty_slot c.split_at.result.0.now c.split_at.result.1.now) ∙ ap (map empty_slot) (sym c.split_at.ensures.by_index.0)),
      (
        sym (ap olds_of left ∙ none_olds c.split_at.result.0.now),
        sym (ap news_of left ∙ none_news c.split_at.result.0.now),
        subst HasCounts (sym c.in_ok-left-2.ensures.ok) l.1,
        subst HasCounts (sym c.in_ok-right-2.ensures.ok) r.1,
      ),
    )
